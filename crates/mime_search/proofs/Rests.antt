-- The first position of a byte.
use Rattle.std.proofs.Common.{◌≡◌, ℕ, ◌<◌, List, length, Some, slice_get, ap, ◌∙◌, arith}
use Rattle.std.specs.Prelude.{◌==◌}
use Rattle.std.proofs.{lemmas.List.Sums.passes_at_first, lemmas.Bool.Decides.Decides-eqb, lemmas.Option.slice_get-get_or}
use Rattle.mime_search.specs.Rests.{first_position}

-- The byte that was looked for is at the position found.
pub slice_get-first_position : (byte : ℕ) (text : List ℕ) (position : ℕ) → position ≡ first_position byte text
    → position < length text → slice_get text position ≡ Some byte
slice_get-first_position byte text position is within =
    let inside : first_position byte text < length text = omega (arith, is, within) in
    let there = (Decides-eqb _ _).0 (passes_at_first (λ b. b == byte) text 0 inside) in
    rw is (slice_get-get_or text (first_position byte text) 0 inside ∙ ap Some there)
