-- A parameter that was written is the one that is found under its name.
use Rattle.std.proofs.Common.{rules, ◌≡◌, ◌++◌, ◌∷◌, [], ℕ, List, Bool, true, false, Option, Some, refl, not, cond, codes}
use Rattle.std.specs.Str.{bytes_eq}
use Rattle.std.proofs.{lemmas.Slice.Eq.bytes_eq-Decides, lemmas.Bool.true≢false}
use Rattle.mime.specs.{Values.lowered, Names.NameIs, Items.items_of, Items.IsFirstAccepted}
use Rattle.mime_http.specs.Written.{others}

-- The last pair is found after a pair of another name, which stays, and after one of its name, which goes.
step : (name content n v : List ℕ) (found : Option (List ℕ × Bool)) (rest : List (List ℕ × List ℕ)) (keep : Bool)
    → not (bytes_eq (lowered n) (lowered name)) ≡ keep
    → (IsFirstAccepted (λ it flag. NameIs it flag name) (items_of (rest ++ ((name, content) ∷ []))) found
    → found ≡ Some (content, bytes_eq name (codes "charset")))
    → IsFirstAccepted (λ it flag. NameIs it flag name) (items_of (cond keep ((n, v) ∷ rest) rest ++ ((name, content) ∷ []))) found
    → found ≡ Some (content, bytes_eq name (codes "charset"))
step name content n v found rest true is next first = search (true≢false, bytes_eq-Decides, rules)
step name content n v found rest false is next first = next first

-- A last pair is found after pairs of other names.
pub found_last : (name content : List ℕ) (pairs : List (List ℕ × List ℕ)) (found : Option (List ℕ × Bool))
    → IsFirstAccepted (λ it flag. NameIs it flag name) (items_of (others name pairs ++ ((name, content) ∷ []))) found
    → found ≡ Some (content, bytes_eq name (codes "charset"))
found_last name content [] found first = first.0 refl
found_last name content ((n, v) ∷ pairs) found first = search (found_last name content pairs found, step, rules)
