-- Start lines (RFC 9112, 2.3, 3 and 4).
use Rattle.std.specs.Prelude.{ℕ, Bool, false, List, [], ◌∷◌, ◌==◌, ◌||◌, ◌&&◌, not, take, drop, length, Option, Some, None, is_some}
use Rattle.std.specs.Prelude.{if◌then◌else◌, codes}
use Rattle.std.specs.Char.{is_ascii_digit}
use Rattle.std.specs.List.{list_all, filter_map, slice_get, slice_index, before_first, after_first}
use Rattle.std.specs.{Option.option_or, Str.bytes_eq}
use Rattle.mime.specs.Grammar.{is_token}
use Rattle.mime_http.specs.HttpList.{trim_start}
use Rattle.mime_http.specs.Lacks.{begins}
use Rattle.mime_headers.specs.declared.start.Kind.{Kind}

-- the first of the words that single spaces part, and the others
abbrev pub word : List ℕ → List ℕ
word text = before_first (λ b. b == 32) text

abbrev pub other_words : List ℕ → List ℕ
other_words text = after_first (λ b. b == 32) text

-- HTTP-version, in which case counts (RFC 9112, 2.3), or with one digit, as curl prints it: `HTTP/1.1`, `HTTP/2`
unfoldable pub is_version : List ℕ → Bool
is_version bytes = bytes_eq (take 5 bytes) (codes "HTTP/") && (is_ascii_digit (slice_index bytes 5)
    && (length bytes == 6 || (length bytes == 8 && (slice_index bytes 6 == 46 && is_ascii_digit (slice_index bytes 7)))))

-- whether bytes have a colon before `//`, or one that only digits follow
abbrev pub has_authority : List ℕ → Bool
has_authority [] = false
has_authority (b ∷ bytes) =
    (b == 58 && (begins (codes "//") bytes || (not (length bytes == 0) && list_all is_ascii_digit bytes))) || has_authority bytes

-- request-target, by its form: origin, asterisk, or absolute and authority, in which something is before the colon (RFC 9112, 3.2)
abbrev pub is_target : List ℕ → Bool
is_target target = begins (codes "/") target || (bytes_eq target (codes "*") || has_authority (drop 1 target))

-- request-line = method SP request-target SP HTTP-version (RFC 9112, 3), with method = 1*tchar (RFC 9110, 5.6.2 and 9.1)
unfoldable pub is_request_line : List ℕ → Bool
is_request_line text = let rest = other_words text in
    is_token (word text) && (is_target (word rest) && is_version (other_words rest))

-- The kind of a response by its status, 3DIGIT, and what a space parts from it. After an interim response, whose status begins with 1,
-- another response follows (RFC 9110, 15.2).
abbrev pub kind_of_status : List ℕ → Option Kind
kind_of_status text = let status = word text in
    if not (length status == 3 && list_all is_ascii_digit status) then None else
    Some (if slice_index status 0 == 49 then Kind.Interim else Kind.Final)

-- the kind of a start line's head: of a request line, or of status-line = HTTP-version SP 3DIGIT SP [ reason-phrase ], or without the last
-- space (RFC 9112, 4)
abbrev pub kind_of : List ℕ → Option Kind
kind_of text =
    if is_version (word text) then kind_of_status (other_words text) else
    if is_request_line text then Some Kind.Request else None

abbrev pub is_start : List ℕ → Bool
is_start text = is_some (kind_of text)

-- what begins with the first `HTTP/` of a text, in any case
abbrev pub from_version : List ℕ → List ℕ
from_version [] = []
from_version (b ∷ text) = if begins (codes "HTTP/") (b ∷ text) then b ∷ text else from_version text

-- the kind of a response by the status after a label
abbrev pub kind_after : List ℕ → List ℕ → Option Kind
kind_after label text = if begins label text then kind_of_status (trim_start (drop (length label) text)) else None

-- the kind of a response by a field with its status: `Status` of CGI (RFC 3875, 6.3.3), or `:status` of HTTP/2 (RFC 9113, 8.3.2)
abbrev pub kind_of_field : List ℕ → Option Kind
kind_of_field text = option_or (kind_after (codes "status:") text) (kind_after (codes ":status:") text)

-- the kind of a response by a line of pasted fields: one with a status line from its first `HTTP/` on, or with such a field
abbrev pub kind_in : List ℕ → Option Kind
kind_in line = option_or (kind_of (from_version line)) (kind_of_field (trim_start line))

-- the kind by the first line that tells it
abbrev pub kind_within : List (List ℕ) → Option Kind
kind_within lines = slice_get (filter_map kind_in lines) 0
