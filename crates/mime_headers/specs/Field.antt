-- The two fields, as lines have them (RFC 9110, 5.5 and 5.6.3; RFC 9112, 5).
use Rattle.std.specs.Prelude.{ℕ, ◌+◌, Bool, true, List, [], ◌∷◌, ◌++◌, ◌==◌, ◌||◌, ◌&&◌, not, nat_lt, drop, length, Option, Some, None}
use Rattle.std.specs.Prelude.{option_and_then, option_map, is_some, if◌then◌else◌, codes}
use Rattle.std.specs.List.{list_all, cons_option, slice_index, before_first}
use Rattle.std.specs.Option.{option_or}
use Rattle.mime.specs.Bytes.{is_token_byte}
use Rattle.mime_http.specs.HttpList.{trim_start, trimmed}
use Rattle.mime_http.specs.Lacks.{begins}
use Rattle.mime_headers.specs.declared.field.Name.{Name}
use Rattle.mime_headers.specs.declared.field.Name.TheVariants.{ContentType, Accept}
use Rattle.mime_headers.specs.Line.{is_folded}

-- one of the two fields as a line has it: its value without the white space around it, and whether white space is before the colon, which
-- HTTP doesn't allow (RFC 9112, 5.1)
pub record Field : Type 0 where
  pub name : Name
  pub value : List ℕ
  pub is_spaced : Bool

abbrev pub label_of : Name → List ℕ
label_of ContentType = codes "content-type"
label_of Accept = codes "accept"

abbrev pub printed_name : Name → List ℕ
printed_name ContentType = codes "Content-Type"
printed_name Accept = codes "Accept"

-- a line as the field with a name, if it begins with that name and a colon
abbrev pub field_named : Name → List ℕ → Option Field
field_named name line = let rest = drop (length (label_of name)) line in
    if begins (label_of name) line && begins (codes ":") (trim_start rest)
    then Some (record { name = name; value = trimmed (drop 1 (trim_start rest)); is_spaced = is_folded rest }) else None

abbrev pub field_of : List ℕ → Option Field
field_of line = option_or (field_named ContentType line) (field_named Accept line)

abbrev pub is_field : List ℕ → Bool
is_field line = is_some (field_of line)

-- what lines add to a value: those at the start that continue it, each trimmed, after one space
abbrev pub continued : List (List ℕ) → List ℕ
continued [] = []
continued (line ∷ lines) = if is_folded line then 32 ∷ trimmed line ++ continued lines else []

-- the value of a field without one: the next line, if no token and colon begin it, as browsers copy a field in two lines
abbrev pub next_value : List (List ℕ) → List ℕ
next_value [] = []
next_value (line ∷ lines) = let name = before_first (λ b. b == 58) line in
    if list_all is_token_byte name && nat_lt (length name) (length line) then [] else trimmed line ++ continued lines

-- a value that begins so, with the lines after it
abbrev pub whole_value : List (List ℕ) → List ℕ → List ℕ
whole_value lines start = let value = start ++ continued lines in if length value == 0 then next_value lines else value

-- the values of the fields with a name, without those that have white space before the colon
abbrev pub values_of : Name → List (List ℕ) → List (List ℕ)
values_of name [] = []
values_of name (line ∷ lines) = cons_option (option_and_then (λ field. if field.is_spaced then None else
    Some (whole_value lines field.value)) (field_named name line)) (values_of name lines)

-- the name of the first of the two fields in plain sight: at the start (`may`), or behind a byte other than `-`, `_` and `[`
abbrev pub seen_from : Bool → List ℕ → Option Name
seen_from may [] = None
seen_from may (b ∷ bytes) = let hides = b == 45 || (b == 95 || b == 91) in
    option_or (option_map (λ field. field.name) (if may then field_of (b ∷ bytes) else None)) (seen_from (not hides) bytes)

-- the same of a line, from whose start a diff's `-` is left out
abbrev pub seen : List ℕ → Option Name
seen line = seen_from true (if slice_index line 0 == 45 then drop 1 line else line)

-- the first line that has one of the two fields in plain sight: its number, counted from `number`, and the field's name
abbrev pub first_seen : ℕ → List (List ℕ) → Option (ℕ × Name)
first_seen number [] = None
first_seen number (line ∷ lines) = option_or (option_map (λ name. (number, name)) (seen line)) (first_seen (number + 1) lines)
