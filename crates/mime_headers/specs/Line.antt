-- The lines of an input, and their marks.
use Rattle.std.specs.Prelude.{ℕ, ◌+◌, ◌-◌, Bool, List, [], ◌∷◌, ◌==◌, ◌||◌, ◌&&◌, not, map, take, drop, length, Option, Some, None}
use Rattle.std.specs.Prelude.{option_and_then, if◌then◌else◌}
use Rattle.std.specs.Char.{is_ascii_digit}
use Rattle.std.specs.List.{prefix_len, suffix_len, slice_index}
use Rattle.std.specs.Str.{bytes_eq}
use Rattle.mime.specs.Grammar.{is_space}
use Rattle.mime_http.specs.HttpList.{trim_start}
use Rattle.mime_http.specs.Lacks.{begins}
use Rattle.mime_io.specs.Lines.{lines_of}

-- the number of bytes of the escape that bytes begin with, by which a terminal prints colours: `ESC [`, digits and semicolons, and `m` or
-- `K`; 0 if there is none
abbrev pub escape_len : List ℕ → ℕ
escape_len bytes = let len = 2 + prefix_len (λ b. is_ascii_digit b || b == 59) (drop 2 bytes) in
    if bytes_eq (take 2 bytes) (27 ∷ 91 ∷ []) && (slice_index bytes len == 109 || slice_index bytes len == 75) then len + 1 else 0

-- the bytes after the first `passed`, without escapes
abbrev pub plain_after : ℕ → List ℕ → List ℕ
plain_after passed [] = []
plain_after passed (b ∷ bytes) = if not (passed == 0) then plain_after (passed - 1) bytes else
    let len = escape_len (b ∷ bytes) in if len == 0 then b ∷ plain_after 0 bytes else plain_after (len - 1) bytes

abbrev pub without_escapes : List ℕ → List ℕ
without_escapes bytes = plain_after 0 bytes

-- a line without the carriage returns at its end
abbrev pub without_returns : List ℕ → List ℕ
without_returns line = take (length line - suffix_len (λ b. b == 13) line) line

-- the lines of an input without a byte order mark and those carriage returns; of an input that is cut off, without the last line
abbrev pub plain_lines : Bool → List ℕ → List (List ℕ)
plain_lines cut bytes =
    let lines = map without_returns (lines_of (if bytes_eq (take 3 bytes) (239 ∷ 187 ∷ 191 ∷ []) then drop 3 bytes else bytes)) in
    if cut then take (length lines - 1) lines else lines

-- whether a mark is a sign, and not an indentation
abbrev pub is_sign : List ℕ → Bool
is_sign mark = let b = slice_index mark 0 in b == 60 || b == 62

-- whether bytes begin with a sign: `<` or `>`, before a space or at the end
unfoldable pub begins_sign : List ℕ → Bool
begins_sign bytes = is_sign bytes && (length bytes == 1 || slice_index bytes 1 == 32)

-- a line's first sign, and its signed text, which follows the sign and that space
abbrev pub signed : List ℕ → Option (List ℕ × List ℕ)
signed [] = None
signed (b ∷ line) = if begins_sign (b ∷ line) then Some (b ∷ [], drop 1 line) else signed line

-- whether a line begins with white space, and so continues a field (RFC 9112, 5.2)
abbrev pub is_folded : List ℕ → Bool
is_folded line = is_space (slice_index line 0)

-- the white space at a line's start
abbrev pub indent_of : List ℕ → List ℕ
indent_of line = take (length line - length (trim_start line)) line

-- the text of a line with a mark, which follows the mark; other lines have none
abbrev pub text_with : List ℕ → List ℕ → Option (List ℕ)
text_with mark line =
    if is_sign mark then option_and_then (λ it. if bytes_eq it.0 mark then Some it.1 else None) (signed line) else
    if begins mark line then Some (drop (length mark) line) else None

-- the mark after which a line has a wanted text: its indentation or, if a wanted text doesn't follow that, its sign; `needs_sign` says that
-- an indentation isn't enough
abbrev pub mark_before : (List ℕ → Bool) → Bool → List ℕ → Option (List ℕ)
mark_before is_wanted needs_sign line =
    if is_wanted (trim_start line) then (if needs_sign then None else Some (indent_of line)) else
    option_and_then (λ it. if is_wanted it.1 then Some it.0 else None) (signed line)
