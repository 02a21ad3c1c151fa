-- The control characters, which a terminal would act on, and the text that shows a dot in place of each.
use Rattle.std.specs.Prelude.{ℕ, ◌-◌, Bool, List, [], ◌∷◌, ◌==◌, ◌||◌, ◌&&◌, nat_le, nat_lt, not, if◌then◌else◌}

-- whether a byte is from `least` to `most`
abbrev pub is_within : ℕ → ℕ → ℕ → Bool
is_within least most b = nat_le least b && nat_le b most

-- the number of bytes of the control character that these bytes begin, with 0 for each that is missing: U+0000 to U+001F other than the
-- line feed, U+007F to U+009F, or one that turns the direction of text: U+061C, U+200E, U+200F, U+202A to U+202E, or U+2066 to U+2069
abbrev pub len_of : ℕ → ℕ → ℕ → ℕ
len_of b c d =
    if (nat_lt b 32 && not (b == 10)) || b == 127 then 1 else
    if (b == 194 && is_within 128 159 c) || (b == 216 && c == 156) then 2 else
    if b == 226 && ((c == 128 && (is_within 142 143 d || is_within 170 174 d)) || (c == 129 && is_within 166 169 d)) then 3 else 0

-- the number of bytes of the control character that bytes begin with; 0 if there is none
abbrev pub control_len : List ℕ → ℕ
control_len [] = 0
control_len (b ∷ []) = len_of b 0 0
control_len (b ∷ c ∷ []) = len_of b c 0
control_len (b ∷ c ∷ d ∷ bytes) = len_of b c d

-- the bytes after the first `passed`, with a dot in place of each control character
abbrev pub shown_after : ℕ → List ℕ → List ℕ
shown_after passed [] = []
shown_after passed (b ∷ bytes) =
    if not (passed == 0) then shown_after (passed - 1) bytes else
    (if control_len (b ∷ bytes) == 0 then b else 46) ∷ shown_after (control_len (b ∷ bytes) - 1) bytes

abbrev pub without_controls : List ℕ → List ℕ
without_controls bytes = shown_after 0 bytes
