-- No `C` begins `Accept`.
use Rattle.mime_headers.proofs.Common.{None, Option, Some, refl, ◌∷◌, ◌≡◌}
use Rattle.std.proofs.Common.{inl, inr}
use Rattle.std.specs.Option.{option_or}
use Rattle.mime_headers.specs.Field.{field_named}
use Rattle.mime_headers.specs.declared.field.Name.TheVariants.{ContentType}
use Rattle.mime_headers.proofs.field.name_from.Goals as goal

or_none : {T : Type 0} → (option : Option T) → option_or option None ≡ option
or_none None = refl
or_none (Some x) = refl

pub returns-in-67 : goal.returns-in-67
returns-in-67 c rest = elim c.in-67.is [
  | inl is ↦ rw (is) (or_none (field_named ContentType (67 ∷ rest)))
  | inr is ↦ rw (is) (or_none (field_named ContentType (99 ∷ rest)))
]
