-- The report on heads and offers: the rows of each `Content-Type`, of `Accept`, and of each offer (RFC 9110, 8.3, 12.5.1 and 15.5.7), and
-- whether a request and its response accept each other's content (15.5.16). docs/RULES.md says the same in words.
use Rattle.std.specs.Prelude.{◌≡◌, ◌≢◌, ◌<◌, ℕ, ◌+◌, ◌-◌, Bool, true, false, List, [], ◌∷◌, ◌++◌, ◌==◌, ◌||◌, ◌&&◌, not}
use Rattle.std.specs.Prelude.{Option, Some, None, Result, Ok, Err, MatchOption, MatchResult, option_and_then, option_map, is_some}
use Rattle.std.specs.Prelude.{unwrap_or, map, flat_map, take, drop, length, slice_get, replicate, nat_lt, if◌then◌else◌, codes}
use Rattle.std.specs.Char.{is_ascii_graphic}
use Rattle.std.specs.Fmt.{decimal, digits}
use Rattle.std.specs.List.{FoldsTo, enumerate_from}
use Rattle.std.specs.Option.{option_zip}
use Rattle.std.specs.Str.{bytes_eq}
use Rattle.mime.specs.{Values.MediaType, Values.suffix_of}
use Rattle.mime_http.specs.{Boundary.IsBoundaryOf, HttpFaults.HttpExplains, HttpFaults.fault_position}
use Rattle.mime_http.specs.HttpList.{trimmed, AreBetweenCommas, FieldReads, IsPiece, BeginsPiece}
use Rattle.mime_http.specs.{HttpPrinted.field_error_text, Lacks.begins, Lacks.is_quoted, Lacks.lacked, Ranges.weight_of, Ranges.first_value}
use Rattle.mime_http.specs.{Ranking.is_qvalue, Ranking.IsRanking, Unescaped.unescaped, Weight.four_digits}
use Rattle.mime_http.specs.declared.ranking.RankedOffer.{RankedOffer}
use Rattle.mime_http.specs.{declared.value.FieldError.FieldError, declared.value.FieldError.TheVariants.NoMemory}
use Rattle.mime_io.specs.{Lines.row, Stops.limit}
use Rattle.mime_headers.specs.Field.{Field, field_of}
use Rattle.mime_headers.specs.Head.{Finding, Head, findings_in, head, heads_of}
use Rattle.mime_headers.specs.Field.{seen, values_of}
use Rattle.mime_headers.specs.Head.{stray, title_of}
use Rattle.mime_headers.specs.Line.{plain_lines, without_escapes}
use Rattle.mime_headers.specs.Start.{other_words, word}
use Rattle.mime_headers.specs.Shown.{without_controls}
use Rattle.mime_headers.specs.declared.report.Verdict.{Verdict}
use Rattle.mime_headers.specs.declared.start.Kind.{Kind}
use Rattle.mime_headers.specs.declared.field.Name.TheVariants.{ContentType, Accept}

-- A value of a field is read as this media type, which is printed for the value, or is rejected with this error, which isn't `NoMemory`.
abbrev pub HasReading : List ℕ → Result MediaType FieldError → Type 0
HasReading value (Ok media) = FieldReads value media
HasReading value (Err error) = (error ≢ NoMemory) × HttpExplains value error

-- What is known after some findings: the report, whether all is good so far (each `Content-Type` is accepted, and each weight in an
-- exchange is above 0), the last choice, if a request has an `Accept`, and how many requests wait for a response. If one alone waits, its
-- ranges and its media type. A choice is `true` if an offer is acceptable or there are no offers.
pub record Progress : Type 0 where
  pub text : List ℕ
  pub are_good : Bool
  pub choice : Option Bool
  pub waiting : ℕ
  pub asked : Option (List MediaType)
  pub sent : Option MediaType

-- ---- a rejected value

-- bytes with a dot in place of each that isn't printable ASCII
abbrev pub shown : List ℕ → List ℕ
shown bytes = map (λ b. if b == 32 || is_ascii_graphic b then b else 46) bytes

-- a row of what is shown of bytes, if it is wanted
abbrev pub row_when : Bool → List ℕ → List ℕ → List ℕ
row_when wanted label bytes = if wanted then row label (shown bytes) else []

-- a byte as a person reads it, and in hexadecimal; with a remark if it is `(`, which begins a comment in mail
abbrev pub byte_text : ℕ → List ℕ
byte_text b = (if b == 32 then codes " space" else if b == 9 then codes " tab" else if is_ascii_graphic b then 32 ∷ b ∷ [] else [])
    ++ (codes " (" ++ (digits 16 true b ++ (if b == 40 then codes "): HTTP has no comments" else codes ")")))

-- the row with a caret at a position of a value, and the byte there, if there is one
abbrev pub caret_row : List ℕ → ℕ → List ℕ
caret_row value at = codes "    " ++ (replicate at 32 ++ row (codes "^") (unwrap_or (option_map byte_text (slice_get value at)) []))

-- the rows of a rejected value of a field: its fault, and the value over a caret at the byte at fault
abbrev pub fault_rows : List ℕ → List ℕ → FieldError → List ℕ
fault_rows label value error =
    row label (field_error_text error) ++ (row (codes "    ") (shown value) ++ caret_row value (fault_position value error))

-- ---- Content-Type

-- the row of a text, or nothing if there is none
abbrev pub row_if : List ℕ → Option (List ℕ) → List ℕ
row_if label text = unwrap_or (option_map (row label) text) []

-- the rows of a media type's parameters, each with what its value means
abbrev pub param_rows : MediaType → List ℕ
param_rows media = flat_map (λ pair. row (codes "param ") (pair.0 ++ (codes "=" ++ unescaped pair.1))) media.pairs

-- the rows of a media type: its kept text, its essence, any suffix, its parameters, and any boundary
abbrev pub media_rows : MediaType → Option (List ℕ) → List ℕ
media_rows media boundary = codes "Content-Type " ++ (media.kept ++ (codes "\nessence " ++ (media.essence ++ (codes "\n"
    ++ (row_if (codes "suffix ") (suffix_of media) ++ (param_rows media ++ row_if (codes "boundary ") boundary))))))

-- a media type has this boundary, or none
abbrev pub BoundaryIs : MediaType → Option (List ℕ) → Type 0
BoundaryIs media boundary = MatchOption boundary ((bytes : List ℕ) → ¬ (IsBoundaryOf media bytes)) (IsBoundaryOf media)

-- ---- Accept

-- a weight in thousandths as a number with three decimals, such as 0.800
abbrev pub weight_text : ℕ → List ℕ
weight_text weight = take 1 (four_digits weight) ++ (46 ∷ drop 1 (four_digits weight))

-- whether RFC 9110, 12.4.2, allows the `q` of a range that is read of an entry: it is a qvalue, without quotes, or there is none
unfoldable pub has_plain_weight : List ℕ → MediaType → Bool
has_plain_weight entry range =
    unwrap_or (option_map is_qvalue (first_value (codes "q") range.pairs)) true && not (is_quoted false false entry)

-- the row of a range that is read of an entry, with a remark if its `q` isn't allowed
abbrev pub range_row : List ℕ → MediaType → List ℕ
range_row entry range = codes "Accept " ++ (weight_text (weight_of range) ++ (codes " " ++ (range.kept ++ (if has_plain_weight entry range
    then codes "\n" else codes " (q isn't a weight in HTTP, counted as " ++ (weight_text (weight_of range) ++ codes ")\n")))))

-- a report and its ranges after an entry: an entry that is a range adds its row and itself, and a rejected entry adds its fault's rows
abbrev pub with_entry : List ℕ × List MediaType → List ℕ → Result MediaType FieldError → List ℕ × List MediaType
with_entry (text, ranges) entry (Ok range) = (text ++ range_row entry range, ranges ++ (range ∷ []))
with_entry (text, ranges) entry (Err error) = (text ++ fault_rows (codes "bad Accept ") entry error, ranges)

-- An empty entry changes nothing. Any other entry is read and added.
abbrev pub AddsEntry : List ℕ × List MediaType → List ℕ → List ℕ × List MediaType → Type 0
AddsEntry old entry new = (length entry ≡ 0 → new ≡ old)
    × (0 < length entry → (reading : Result MediaType FieldError) × HasReading entry reading × (new ≡ with_entry old entry reading))

-- Lines add their entries in order: the texts between commas outside strings, each without the white space around it.
abbrev pub AddsLines : List (List ℕ) → List ℕ × List MediaType → List ℕ × List MediaType → Type 0
AddsLines lines old new =
    (pieces : List (List ℕ)) × AreBetweenCommas IsPiece BeginsPiece lines pieces × FoldsTo AddsEntry old (map trimmed pieces) new

-- ---- offers

-- a range's place among the ranges, from 1, and its kept text
abbrev pub numbered : ℕ × MediaType → List ℕ
numbered (at, range) = decimal (at + 1) ++ (codes " " ++ range.kept)

-- the range that decides, with its position
abbrev pub decider : List MediaType → RankedOffer → Option (ℕ × MediaType)
decider ranges one = option_and_then (λ at. option_map (λ range. (at, range)) (slice_get ranges at)) one.range

-- that a range would decide but for a parameter; nothing if it wouldn't
abbrev pub lacks_text : MediaType → Option MediaType → ℕ × MediaType → List ℕ
lacks_text offer decider (at, range) = unwrap_or (option_map (λ pair. codes " (lacks " ++ (pair.0 ++ (codes "=" ++ (unescaped pair.1
    ++ (codes " of " ++ (numbered (at, range) ++ codes ")")))))) (lacked range decider offer)) []

-- the row of an offer, if there is one: its weight, its kept text, the range that decides, and those that would but for a parameter
abbrev pub offer_row : List ℕ → List MediaType → RankedOffer → Option MediaType → List ℕ
offer_row label ranges one None = []
offer_row label ranges one (Some offer) = label ++ (weight_text one.weight ++ (codes " " ++ (offer.kept ++ (codes " by "
    ++ (unwrap_or (option_map numbered (decider ranges one)) (codes "none")
    ++ (flat_map (lacks_text offer (option_map (λ item. item.1) (decider ranges one))) (enumerate_from 0 ranges) ++ codes "\n"))))))

-- the rows of the offers, in the ranking's order
abbrev pub offer_rows : List ℕ → List MediaType → List MediaType → List RankedOffer → List ℕ
offer_rows label ranges offers ranking = flat_map (λ one. offer_row label ranges one (slice_get offers one.offer)) ranking

-- the row of the best offer, the ranking's first, or of 406 if it weighs 0; and whether an offer is acceptable or there are no offers
abbrev pub best_row : List MediaType → List RankedOffer → List ℕ × Bool
best_row offers [] = ([], true)
best_row offers (one ∷ ranking) = if one.weight == 0 then (codes "406 Not Acceptable\n", false) else
    (row_if (codes "best ") (option_map (λ best. best.kept) (slice_get offers one.offer)), true)

-- ---- exchanges

-- A media type, weighed like an offer by ranges: its row, and whether it weighs more than 0. Without ranges or a media type, nothing.
abbrev pub IsWeighed : List ℕ → Option (List MediaType) → Option MediaType → List ℕ × Bool → Type 0
IsWeighed label ranges media weighed = MatchOption (option_zip ranges media) (weighed ≡ ([], true)) (λ it. (ranking : List RankedOffer)
    × IsRanking it.0 (it.1 ∷ []) ranking
    × (weighed ≡ (offer_rows label it.0 (it.1 ∷ []) ranking, (best_row (it.1 ∷ []) ranking).1)))

-- ---- heads

-- whether a head is a response that isn't interim
abbrev pub is_final : Kind → Bool
is_final Kind.Fields = false
is_final Kind.Request = false
is_final Kind.Interim = false
is_final Kind.Final = true

-- whether a value is as a tool prints it: in quotes, or with what shows a carriage return or a line feed at its end
abbrev pub ends_in : List ℕ → List ℕ → Bool
ends_in value end = bytes_eq (drop (length value - length end) value) end

abbrev pub is_altered : List ℕ → Bool
is_altered value = begins (codes "'") value || (ends_in value (codes ".") || (ends_in value (codes "$") || (ends_in value (codes "^M")
    || (ends_in value (codes "\\r") || ends_in value (codes "\\n")))))

-- the row of a line of a head that isn't one of the two fields as it was sent, or may not be, but has one in plain sight
abbrev pub remark_of : List ℕ → Option Field → List ℕ
remark_of line None = row_when (is_some (seen line)) (codes "not in a head: ") line
remark_of line (Some field) = row_when field.is_spaced (codes "white space before the colon: ") line
    ++ row_when (not field.is_spaced && is_altered field.value) (codes "perhaps not as sent: ") line

-- the row of a head's title, if there are several heads, and those of its lines
abbrev pub title_rows : Bool → Head → List ℕ
title_rows many it = row_when many (codes "head ") (title_of it.texts) ++ flat_map (λ line. remark_of line (field_of line)) it.texts

-- A value of `Content-Type` is read without the white space around it (RFC 9110, 5.5). What is read adds its rows to a report, and is the
-- last media type. Whether all values so far are accepted becomes `false` if this value is rejected.
abbrev pub AddsType : List ℕ × Bool × Option MediaType → List ℕ → List ℕ × Bool × Option MediaType → Type 0
AddsType (text, are_good, last) value new =
    (reading : Result MediaType FieldError) × HasReading (trimmed value) reading × MatchResult reading
    (λ media. (boundary : Option (List ℕ)) × BoundaryIs media boundary × (new ≡ (text ++ media_rows media boundary, are_good, Some media)))
    (λ error. new ≡ (text ++ fault_rows (codes "bad Content-Type ") (trimmed value) error, false, last))

-- whether a `Content-Type` is expected: of a final response, unless it has no content by its status (RFC 9110, 15.3.5 and 15.4.5)
abbrev pub expects_type : Kind → List ℕ → Bool
expects_type kind title = let code = word (other_words title) in
    is_final kind && (not (bytes_eq code (codes "204")) && not (bytes_eq code (codes "304")))

-- the row which says that an expected `Content-Type` isn't there, or that there is more than one
abbrev pub count_row : Bool → List (List ℕ) → List ℕ
count_row is_expected [] = row_when is_expected (codes "no Content-Type") []
count_row is_expected (value ∷ []) = []
count_row is_expected (value ∷ other ∷ values) = row (codes "several Content-Type lines (HTTP allows one)") []

-- A head adds its title, its values of `Content-Type`, `count_row`, and the weight of the only media type of a final response by the
-- request that it answers. `only` is that media type, of any head.
abbrev pub AddsTypes : Bool → Progress → Head → Option MediaType → Progress → Type 0
AddsTypes many old it only new =
    let types = values_of ContentType it.texts in
    (typed : List ℕ × Bool × Option MediaType) × (answer : List ℕ × Bool)
    × FoldsTo AddsType (old.text ++ title_rows many it, old.are_good, None) types typed
    × (only ≡ (if length types == 1 then typed.2 else None))
    × IsWeighed (codes "answer ") (if is_final it.kind then old.asked else None) only answer
    × (new ≡ record old {
      text = typed.0 ++ (count_row (expects_type it.kind (title_of it.texts)) types ++ answer.0);
      are_good = typed.1 && answer.1;
    })

-- the row which says that lines of `Accept` have no entry, if the report is the same before them and after
abbrev pub empty_row : List ℕ → List ℕ → List ℕ
empty_row old new = if length old == length new then codes "empty Accept\n" else []

-- The lines of `Accept`, which are one list (RFC 9110, 5.3), add their rows to a report, and have ranges. Without lines, nothing is added.
abbrev pub AddsAccept : List (List ℕ) → List ℕ → List ℕ × Option (List MediaType) → Type 0
AddsAccept lines old new = (length lines ≡ 0 → new ≡ (old, None)) × (0 < length lines → (read : List ℕ × List MediaType)
    × AddsLines lines (old, []) read × (new ≡ (read.0 ++ empty_row old read.0, Some read.1)))

-- The offers are weighed by ranges, and one is chosen. Without ranges, nothing is added.
abbrev pub AddsChoice : List MediaType → Option (List MediaType) → Progress → Progress → Type 0
AddsChoice offers ranges old new = MatchOption ranges (new ≡ old) (λ ranges. (ranking : List RankedOffer)
    × IsRanking ranges offers ranking × (new ≡ record old {
      text = old.text ++ (offer_rows (codes "offer ") ranges offers ranking ++ (best_row offers ranking).0);
      choice = Some (best_row offers ranking).1;
    }))

-- A request, or a head without a start line, chooses an offer, and waits. If another request waits, no response is known to answer it.
abbrev pub AddsRequest : List MediaType → Option (List MediaType) → Option MediaType → Progress → Progress → Type 0
AddsRequest offers ranges only old new = (chosen : Progress) × AddsChoice offers ranges old chosen × (new ≡ record chosen {
  waiting = chosen.waiting + 1;
  asked = if chosen.waiting == 0 then ranges else None;
  sent = if chosen.waiting == 0 then only else None;
})

-- A final response weighs the media type of the request that it answers (RFC 9110, 12.5.1 and 15.5.16), and ends its wait.
abbrev pub AddsResponse : Option (List MediaType) → Progress → Progress → Type 0
AddsResponse ranges old new = (weighed : List ℕ × Bool) × IsWeighed (codes "request ") ranges old.sent weighed × (new ≡ record old {
  text = old.text ++ weighed.0;
  are_good = old.are_good && weighed.1;
  waiting = old.waiting - 1;
  asked = None;
  sent = None;
})

abbrev pub AddsWeights : Kind → List MediaType → Option (List MediaType) → Option MediaType → Progress → Progress → Type 0
AddsWeights Kind.Fields offers ranges only old new = AddsRequest offers ranges only old new
AddsWeights Kind.Request offers ranges only old new = AddsRequest offers ranges only old new
AddsWeights Kind.Interim offers ranges only old new = new ≡ old
AddsWeights Kind.Final offers ranges only old new = AddsResponse ranges old new

-- A head adds, in order: its title, its `Content-Type`, its `Accept`, and the weights by this.
abbrev pub AddsHead : List MediaType → Bool → Progress → Head → Progress → Type 0
AddsHead offers many old it new = (typed : Progress) × (only : Option MediaType) × (read : List ℕ × Option (List MediaType))
    × AddsTypes many old it only typed × AddsAccept (values_of Accept it.texts) typed.text read
    × AddsWeights it.kind offers read.1 only (record typed { text = read.0 }) new

-- A finding is a head, or has a row.
abbrev pub AddsFinding : List MediaType → Bool → Progress → Finding → Progress → Type 0
AddsFinding offers many old (head it) new = AddsHead offers many old it new
AddsFinding offers many old (stray line) new = new ≡ record old { text = old.text ++ row (codes "not in a head: ") (shown line) }

-- If there are offers and no request has an `Accept`, a row says so, and the offers are weighed by `*/*`.
abbrev pub AddsMissing : List MediaType → Progress → Progress → Type 0
AddsMissing offers old new = let is_known = length offers == 0 || is_some old.choice in
    (is_known ≡ true → new ≡ old) × (is_known ≡ false → (read : List ℕ × List MediaType)
    × AddsEntry (old.text ++ codes "no Accept\n", []) (codes "*/*") read
    × AddsChoice offers (Some read.1) (record old { text = read.0 }) new)

-- the verdict: acceptable if all is good, and the last choice, if there is one, is `true`
abbrev pub verdict_of : Progress → Verdict
verdict_of end = if end.are_good && unwrap_or end.choice true then Verdict.Acceptable else Verdict.NotAcceptable

-- what is known before the first finding
abbrev pub start : Progress
start = record { text = []; are_good = true; choice = None; waiting = 0; asked = None; sent = None }

-- There are heads. The text is the report on findings and on offers, without controls, and says if they are cut off. The verdict is the
-- report's.
pub record IsReport (offers : List MediaType) (cut : Bool) (findings : List Finding) (text : List ℕ) (verdict : Verdict) : Type 0 where
  pub some : 0 < length (heads_of findings)
  pub last : Progress
  pub adds : (state : Progress) × FoldsTo (AddsFinding offers (nat_lt 1 (length (heads_of findings)))) start findings state
      × AddsMissing offers state last
  pub is_text : text ≡ without_controls (last.text ++ row_when cut (codes "not read after ") (codes "1048576 bytes"))
  pub is_verdict : verdict ≡ verdict_of last

-- whether an input is cut off: more bytes than the limit were read
abbrev pub is_cut : List ℕ → Bool
is_cut bytes = nat_lt limit (length bytes)

-- the lines and the findings of the bytes that were read
abbrev pub lines_read : List ℕ → List (List ℕ)
lines_read bytes = plain_lines (is_cut bytes) (without_escapes bytes)

abbrev pub findings_read : List ℕ → List Finding
findings_read bytes = findings_in (is_cut bytes) (lines_read bytes)

-- The text and the verdict are those of the report on the bytes that were read, and on offers.
abbrev pub IsReportOf : List MediaType → List ℕ → List ℕ → Verdict → Type 0
IsReportOf offers bytes text verdict = IsReport offers (is_cut bytes) (findings_read bytes) text verdict
