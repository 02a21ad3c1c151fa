-- Classes of bytes that only the scanner has.
use Rattle.std.specs.Prelude.{ℕ, Bool, true, false, ◌&&◌, ◌==◌, not, nat_lt}
use Rattle.mime.specs.Bytes.{is_token_byte, plus_byte}

-- a byte of a token other than the plus
abbrev pub is_token_except_plus : ℕ → Bool
is_token_except_plus b = is_token_byte b && not (b == plus_byte)

-- the bytes of a token, with the plus or without it
abbrev pub token_bytes : Bool → ℕ → Bool
token_bytes true = is_token_byte
token_bytes false = is_token_except_plus

-- an ASCII byte that begins no media type
abbrev pub is_ascii_not_token : ℕ → Bool
is_ascii_not_token b = nat_lt b 128 && not (is_token_byte b)
