-- Which bytes may occur where in a media type (RFC 7231, 3.1.1.1, with the token of RFC 7230, 3.2.6).
use Rattle.std.specs.Prelude.{ℕ, Bool, ◌&&◌, ◌||◌, not, ◌==◌, nat_le, codes}
use Rattle.std.specs.List.{list_any}
use Rattle.std.specs.Char.{is_ascii_alphanumeric}

-- tchar: an ASCII letter, a digit, or one of fifteen marks
unfoldable pub is_token_byte : ℕ → Bool
is_token_byte b = is_ascii_alphanumeric b || list_any (λ mark. mark == b) (codes "!#$%&'*+-.^_`|~")

-- the second byte of a quoted-pair: the tab, or a byte from 32 to 255 other than 127 (RFC 7230, 3.2.6)
unfoldable pub is_quoted_byte : ℕ → Bool
is_quoted_byte b = b == 9 || (nat_le 32 b && (nat_le b 255 && not (b == 127)))

-- qdtext: a byte of `is_quoted_byte` other than the double quote and the backslash (RFC 7230, 3.2.6)
abbrev pub is_quoted_text_byte : ℕ → Bool
is_quoted_text_byte b = is_quoted_byte b && not (b == 34 || b == 92)

-- the bytes with a role of their own in a media type, as numbers
abbrev pub slash_byte : ℕ
slash_byte = 47

abbrev pub plus_byte : ℕ
plus_byte = 43

abbrev pub semicolon_byte : ℕ
semicolon_byte = 59

abbrev pub equals_byte : ℕ
equals_byte = 61

abbrev pub quote_byte : ℕ
quote_byte = 34

abbrev pub backslash_byte : ℕ
backslash_byte = 92

abbrev pub space_byte : ℕ
space_byte = 32

abbrev pub tab_byte : ℕ
tab_byte = 9

-- the byte between the entries of a list of media types (RFC 7231, 5.3.2)
abbrev pub comma_byte : ℕ
comma_byte = 44
