-- Bytes that are equal ignoring ASCII case differ in no bit but a letter's.
use Rattle.std.proofs.Common.{◌≡◌, ◌<◌, ◌-◌, ℕ, Bool, not, cond, nat_eq, bit_and, bit_or, refl, sym, ap, ◌∙◌}
use Rattle.std.specs.{Char.is_ascii_lowercase, Int.Bits.bit_xor, List.list_all, List.range_with_len}
use Rattle.std.proofs.lemmas.Bool.{eqb-true, cond-true, cond-false}
use mir.Val.{bool_byte}
use Rattle.mime_search.specs.Differences.{difference_bit}
use Rattle.mime_search.proofs.IgnoringCase.{at_byte}
use Rattle.mime_search.proofs.ignoring_case.difference.Goals.{then-is_ascii_lowercase, else-is_ascii_lowercase}
use Rattle.mime_search.proofs.ignoring_case.difference.Goals as goal

-- The bit that tells a letter's cases, or none.
case_of : ℕ → ℕ
case_of x = cond (is_ascii_lowercase (bit_or x 32)) 32 0

-- the bit of two bytes, as the code finds it
abbrev found : ℕ → ℕ → ℕ → ℕ
found case x y = bool_byte (not (nat_eq (bit_and (bit_xor x y) (255 - case)) 0))

-- The code finds the right bit: tried on all pairs of bytes.
is_right : (x y : ℕ) → x < 256 → y < 256 → found (case_of x) x y ≡ difference_bit x y
unfolding case_of
is_right x y fits fits_too =
    let row : ℕ → Bool = λ x. list_all (λ y. nat_eq (found (case_of x) x y) (difference_bit x y)) (range_with_len 0 256) in
    eqb-true _ _ (at_byte (λ y. nat_eq (found (case_of x) x y) (difference_bit x y)) y fits_too (at_byte row x fits refl))

pub returns : goal.returns
unfolding case_of
returns c =
    let x = c.args.x in
    let letter = c.is_ascii_lowercase.ensures.value in
    let case : c.if-is_ascii_lowercase.case ≡ case_of x = elim c.if-is_ascii_lowercase.branch [
      | then-is_ascii_lowercase w ↦ w.case-is ∙ sym (cond-true _ 32 0 (sym letter ∙ w.if-is_ascii_lowercase.true))
      | else-is_ascii_lowercase w ↦ w.case-is ∙ sym (cond-false _ 32 0 (sym letter ∙ w.if-is_ascii_lowercase.false))
    ] in
    c.from.ensures ∙ ap (λ k. found k x c.args.y) case ∙ is_right x c.args.y c.ranges.x.fits c.ranges.y.fits
