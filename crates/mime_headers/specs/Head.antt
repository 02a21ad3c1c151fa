-- The heads of an input, and the lines in no head (RFC 9112, 2). docs/RULES.md says the same in words.
use Rattle.std.specs.Prelude.{ℕ, ◌-◌, Bool, true, false, List, [], ◌∷◌, ◌++◌, ◌==◌, ◌||◌, ◌&&◌, not, nat_lt, map, filter, length}
use Rattle.std.specs.Prelude.{Option, Some, None, option_and_then, option_map, is_none, is_some, unwrap_or, if◌then◌else◌}
use Rattle.std.specs.List.{list_any, filter_map, slice_get, before_first}
use Rattle.std.specs.{Option.option_or, Str.bytes_eq}
use Rattle.mime_http.specs.HttpList.{trim_start}
use Rattle.mime_headers.specs.declared.start.Kind.{Kind}
use Rattle.mime_headers.specs.Field.{is_field, seen}
use Rattle.mime_headers.specs.Line.{begins_sign, is_sign, mark_before, text_with}
use Rattle.mime_headers.specs.Start.{is_start, kind_of, kind_within}

-- a head: its kind, and its lines without their mark
pub record Head : Type 0 where
  pub kind : Kind
  pub texts : List (List ℕ)

abbrev pub title_of : List (List ℕ) → List ℕ
title_of texts = unwrap_or (slice_get texts 0) []

-- the head with a mark that has these texts, and lies among these lines. If the first text isn't a start line, and no line tells the
-- status, it is a response with the sign `<`, by which curl marks what it receives, and otherwise of fields alone.
abbrev pub head_of : List ℕ → List (List ℕ) → List (List ℕ) → Head
head_of mark lines texts =
    let told = option_or (kind_of (title_of texts)) (kind_within lines) in
    record { kind = unwrap_or told (if bytes_eq mark (60 ∷ []) then Kind.Final else Kind.Fields); texts = texts }

-- what a report is on: a head, or a line in no head with one of the two fields in plain sight
pub data Finding : Type 0 where
  head : Head → Finding
  stray : List ℕ → Finding

-- whether a line ends the head with a mark: it has nothing after the mark, or it isn't indented as the head is. Without a mark, whether it
-- has nothing after its indentation but at most a sign.
abbrev pub is_end : Option (List ℕ) → List ℕ → Bool
is_end None line = let text = trim_start line in length text == 0 || (begins_sign text && nat_lt (length text) 3)
is_end (Some mark) line = unwrap_or (option_map (λ text. length text == 0) (text_with mark line)) (not (is_sign mark))

-- the mark of lines without a start line, if they have one of the two fields: the empty indentation, if that is enough, or that before the
-- first of the fields
unfoldable pub mark_of_fields : List (List ℕ) → Option (List ℕ)
mark_of_fields lines = if list_any is_field lines then Some [] else slice_get (filter_map (mark_before is_field false) lines) 0

-- a line and those after it that are of its head, or of its block. `start` is the mark before a start line in it, if it has one, and
-- `needs_sign` says that a later start line needs a sign.
abbrev pub own_lines : Bool → Option (List ℕ) → List ℕ → List (List ℕ) → List (List ℕ)
own_lines needs_sign start line lines = line ∷ (if is_none start && is_end None line then [] else
    before_first (λ it. is_end start it || is_some (mark_before is_start needs_sign it)) lines)

-- the lines without a mark that have one of the two fields in plain sight
abbrev pub strays_of : Option (List ℕ) → List (List ℕ) → List Finding
strays_of mark lines = map (λ line. stray line)
    (filter (λ line. is_none (option_and_then (λ mark. text_with mark line) mark) && is_some (seen line)) lines)

-- the findings of a head or a block with a mark: the head, unless nothing ends it in an input that is cut off, and its strays
abbrev pub findings_of : Bool → Option (List ℕ) → List (List ℕ) → List Finding
findings_of is_open None lines = strays_of None lines
findings_of is_open (Some mark) lines =
    if is_open then [] else head (head_of mark lines (filter_map (text_with mark) lines)) ∷ strays_of (Some mark) lines

-- whether a start line needs a sign after one with a mark
abbrev pub needs_sign_after : Bool → Option (List ℕ) → Bool
needs_sign_after needs_sign start = needs_sign || unwrap_or (option_map is_sign start) false

-- The findings of the lines after the first `passed`. `alone` says that no start line is before them: then blocks of fields are heads.
abbrev pub findings_after : Bool → ℕ → Bool → Bool → List (List ℕ) → List Finding
findings_after cut passed alone needs_sign [] = []
findings_after cut passed alone needs_sign (line ∷ lines) =
    if not (passed == 0) then findings_after cut (passed - 1) alone needs_sign lines else
    let start = mark_before is_start needs_sign line in
    let later = needs_sign_after needs_sign start in
    let own = own_lines later start line lines in
    findings_of (cut && length own == length (line ∷ lines)) (option_or start (if alone then mark_of_fields own else None)) own
    ++ findings_after cut (length own - 1) (alone && is_none start) later lines

abbrev pub findings_in : Bool → List (List ℕ) → List Finding
findings_in cut lines = findings_after cut 0 true false lines

abbrev pub heads_of : List Finding → List Head
heads_of [] = []
heads_of (head it ∷ findings) = it ∷ heads_of findings
heads_of (stray line ∷ findings) = heads_of findings
