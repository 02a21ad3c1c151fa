-- How lines are cut off.
use Rattle.std.proofs.Common.{min, ◌-◌, ◌≡◌, ℕ, ◌+◌, ◌<◌, not, List, [], ◌∷◌, length, take, drop, arith, nat_eq}
use Rattle.std.specs.List.{position_or_len, prefix_len}
use Rattle.std.proofs.{Math.Numerals.one-add, lemmas.Bool.Decides.nat_tests, lemmas.Grind.common_steps}
use Rattle.mime_io.specs.Lines.{lines_of}

-- The first line is what stands before the first byte 10, and the other lines follow that byte.
pub lines_of-first : (bytes : List ℕ) → 0 < length bytes → lines_of bytes
    ≡ take (position_or_len (λ b. nat_eq b 10) bytes) bytes ∷ lines_of (drop (position_or_len (λ b. nat_eq b 10) bytes + 1) bytes)
lines_of-first [] h = absurd (omega arith)
lines_of-first (b ∷ []) h = grind arith
lines_of-first (b ∷ c ∷ bytes) h =
    grind (arith, nat_tests, one-add (prefix_len (λ b. not (nat_eq b 10)) (c ∷ bytes)), lines_of-first (c ∷ bytes))

-- The bytes after a position are none if it is the last.
pub drop-beyond : (n : ℕ) (xs : List ℕ)
    → drop (n + 1) xs ≡ take (length xs - min (n + 1) (length xs)) (drop (min (n + 1) (length xs)) xs)
drop-beyond n xs = grind (arith, common_steps)
