-- Private: where a byte first occurs in a text, and what the rest of a text is.
use Rattle.std.specs.Prelude.{◌≡◌, ℕ, ◌+◌, ◌-◌, List, length, take, drop, ◌==◌}
use Rattle.std.specs.List.{position_or_len}

-- the first position of a byte, or the text's length
abbrev pub first_position : ℕ → List ℕ → ℕ
first_position byte text = position_or_len (λ b. b == byte) text

-- the text before that position, and the text after it
abbrev pub before_byte : ℕ → List ℕ → List ℕ
before_byte byte text = take (first_position byte text) text

abbrev pub after_byte : ℕ → List ℕ → List ℕ
after_byte byte text = drop (first_position byte text + 1) text

-- the first list is the second without some of its first bytes
abbrev pub IsRestOf : List ℕ → List ℕ → Type 0
IsRestOf end whole = end ≡ drop (length whole - length end) whole
