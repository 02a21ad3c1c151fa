-- Another disposition, or one without a name, names no field, however it is read.
use Rattle.std.proofs.Common.{rules, ◌≡◌, ◌≢◌, ◌∙◌, ◌++◌, ◌∷◌, [], ℕ, List, Bool, Option, Some, None, sym, subst, codes}
use Rattle.std.proofs.lemmas.Option.{none-some}
use Rattle.mime.specs.{Items.Item, Items.IsFirstAccepted}
use Rattle.mime_http.specs.HttpMediaType.{HttpReads}
use Rattle.mime_examples.specs.Disposition.{FirstMeans}
use Rattle.mime_examples.proofs.disposition.read_disposition.Goals as goal

-- If a key finds no item, it finds none again.
none_stays : (Accepts : List ℕ → Bool → Type 0) (items : List Item) (found : Option (List ℕ × Bool))
    → IsFirstAccepted Accepts items None → IsFirstAccepted Accepts items found → found ≡ None
none_stays Accepts [] found none first = first
none_stays Accepts (item ∷ items) found none first =
    let other : ¬ (Accepts item.name item.name_ignores_case) =
    λ is. none-some _ (none.0 is) in
    none_stays Accepts items found (none.1 other) (first.1 other)

-- A parameter that isn't there means nothing.
means_nothing : (pairs : List (List ℕ × List ℕ)) (name meaning : List ℕ) → FirstMeans pairs name None
    → ¬ (FirstMeans pairs name (Some meaning))
means_nothing pairs name meaning (Some value, first, is) some = cc
means_nothing pairs name meaning (None, none, is) (None, first, other) = cc
means_nothing pairs name meaning (None, none, is) (Some value, first, other) = search (none_stays, rules)

pub returns-then-ne : goal.returns-then-ne
returns-then-ne c = λ name file_name is.
    let read : HttpReads (codes "x/" ++ c.args.value.now) c.in-Ok.mime.media = search rules in
    let other : c.in-Ok.mime.media.essence ≢ codes "x/form-data" = search rules in
    other ((c.one_http_reading.ensures _ _ _ read is.read).0 ∙ is.form_data)

pub returns-in_default : goal.returns-in_default
returns-in_default c = λ name file_name is.
    let read : HttpReads (codes "x/" ++ c.args.value.now) c.in-Ok.mime.media = search rules in
    let none : FirstMeans c.in-Ok.mime.media.pairs (codes "name") None = rw c.in_default.is at c.in_ok-name.ensures in
    means_nothing _ _ name none
    (subst (λ pairs. FirstMeans pairs (codes "name") (Some name)) (sym (c.one_http_reading.ensures _ _ _ read is.read).1) is.field)
