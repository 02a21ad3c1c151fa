-- Bytes stand at a place in others.
use Rattle.std.proofs.Common.{◌≡◌, ◌≢◌, ◌∙◌, ◌<◌, ◌-◌, ◌++◌, ◌∷◌, [], ℕ, List, Bool, true, take, drop, length, length-append}
use Rattle.std.proofs.Common.{take-append-drop, nat_eq, ap, sym, refl, arith}
use Rattle.std.specs.List.{starts_with}
use Rattle.std.proofs.lemmas.Bool.Decides.{Decides-eqb}
use Rattle.std.proofs.lemmas.List.{take_at, drop_at, take_rest}
use Rattle.std.proofs.lemmas.Slice.Eq.{starts_is}

-- What stands before a place in a text is taken up to it.
pub taken : {text : List ℕ} (before rest : List ℕ) → text ≡ before ++ rest → take (length before) text ≡ before
taken before rest is = ap (take (length before)) is ∙ take_at before rest (length before) refl

-- What stands from a place on is dropped from it on.
pub dropped : {text : List ℕ} (before rest : List ℕ) → text ≡ before ++ rest → drop (length before) text ≡ rest
dropped before rest is = ap (drop (length before)) is ∙ drop_at before rest (length before) refl

-- What stands in a text begins before its end.
pub begins_inside : (text before bytes after : List ℕ) → bytes ≢ [] → text ≡ before ++ (bytes ++ after)
    → length before < length text
begins_inside text before [] after some is = absurd (some refl)
begins_inside text before (b ∷ bytes) after some is = omega (arith, simp length-append at (ap length is))

-- A slice from a place on begins with bytes exactly if they stand there.
pub from_place : (text bytes : List ℕ) (at : ℕ) (answer : Bool)
    → answer ≡ starts_with nat_eq (take (length text - at) (drop at text)) bytes
    → (answer ≡ true → (after : List ℕ) × (drop at text ≡ bytes ++ after))
    × ((after : List ℕ) → drop at text ≡ bytes ++ after → answer ≡ true)
from_place text bytes at answer is =
    let rest = take (length text - at) (drop at text) in
    let told = starts_is Decides-eqb rest bytes answer is in
    (λ yes. (drop (length bytes) rest, sym (take_rest text at) ∙ told.0 yes), λ after here. told.1 after (take_rest text at ∙ here))

-- A text is what stands before a place, and what stands from it on.
pub divided : (text : List ℕ) (at : ℕ) (rest : List ℕ) → drop at text ≡ rest → text ≡ take at text ++ rest
divided text at rest is = sym (take-append-drop at text) ∙ ap (λ it. take at text ++ it) is
