-- `has_param` returns whether a value was found.
use Rattle.std.proofs.Common.{◌≡◌, ◌∙◌, refl, Option, Some, None, is_some}
use Rattle.std.specs.Option.{option_map}
use Rattle.mime_examples.proofs.callers.has_param.Goals as goal

-- Mapping an option keeps whether it has a value.
is_some-option_map : {X Y : Type 0} (f : X → Y) (o : Option X) → is_some o ≡ is_some (option_map f o)
is_some-option_map f None = refl
is_some-option_map f (Some x) = refl

pub returns : goal.returns
returns c = (_, c.get_param.ensures.found, c.is_some.ensures ∙ is_some-option_map _ c.get_param.result)
