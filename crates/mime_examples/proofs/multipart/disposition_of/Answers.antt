-- The first field's value is the one that is read.
use Rattle.std.proofs.Common.{◌≡◌, ℕ, List, Option, Some, None, sym, subst, refl}
use Rattle.std.specs.Prelude.{MatchOption, option_map}
use Rattle.std.specs.Vec.{vec_items}
use Rattle.std.proofs.{lemmas.Option.same_Some, lemmas.Result.IfOk-weaker}
use Rattle.mime_examples.specs.{Disposition.IsDisposition, declared.disposition.Disposition.Disposition, Multipart.IsFirstField}
use Rattle.mime_examples.proofs.multipart.disposition_of.Goals as goal

-- What is read of the first field's value is read of the part.
of_first : {A : Type 0} {label part : List ℕ} (value : List ℕ) (name_of : A → List ℕ) (file_of : A
    → Option (List ℕ)) (answer : Option A) → IsFirstField label part (Some value)
    → MatchOption answer ((name : List ℕ) (file : Option (List ℕ)) → ¬ (IsDisposition value name file))
    (λ found. IsDisposition value (name_of found) (file_of found)) → (first : Option (List ℕ)) × IsFirstField label part first
    × MatchOption answer ((value name : List ℕ) (file : Option (List ℕ)) → first ≡ Some value
    → ¬ (IsDisposition value name file))
    (λ found. (value : List ℕ) × (first ≡ Some value) × IsDisposition value (name_of found) (file_of found))
of_first value name_of file_of None first none = (
  Some value,
  first,
  λ other name file same is. none name file (subst (λ it. IsDisposition it name file) (sym (same_Some _ _ same)) is),
)
of_first value name_of file_of (Some found) first is = (Some value, first, (value, refl, is))

pub returns-in-Some : goal.returns-in-Some
returns-in-Some c =
    IfOk-weaker _ _ _
    (λ answer is. of_first c.in-Some.value.now (λ (found : Disposition). vec_items found.name)
    (λ found. option_map vec_items found.file_name) answer c.in-Some.ensures is)
    c.read_disposition.ensures
