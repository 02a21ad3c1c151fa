-- A weight in thousandths, as it is read and as it is written (RFC 9110, 12.4.2).
use Rattle.std.specs.Prelude.{ℕ, ◌+◌, ◌*◌, ◌-◌, ◌/◌, ◌%◌, List, [], ◌∷◌, ◌++◌, length, take, drop, take_while, slice_index}
use Rattle.std.specs.Prelude.{fold, min, if◌then◌else◌, ◌==◌, codes}
use Rattle.std.specs.Char.{is_ascii_digit}

-- the number that a text begins with, in thousandths and at most 1000: its digits before a dot, and three after it. What isn't a weight
-- counts so, too: `.2` as 200, `2` as 1000, and `high` as 0
abbrev pub thousandths_of : List ℕ → ℕ
thousandths_of text = let whole = take_while is_ascii_digit text in let rest = drop (length whole) text in
    let decimals = if slice_index rest 0 == 46 then take_while is_ascii_digit (drop 1 rest) else [] in
    min 1000 (fold (λ n digit. 10 * n + (digit - 48)) 0 (whole ++ take 3 (decimals ++ codes "000")))

-- a number below 10,000 in four digits
abbrev pub four_digits : ℕ → List ℕ
four_digits n = (48 + n / 1000) ∷ (48 + n / 100 % 10) ∷ (48 + n / 10 % 10) ∷ (48 + n % 10) ∷ []
