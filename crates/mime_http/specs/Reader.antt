-- Private: a header's value read byte by byte by HTTP's own grammar (RFC 9110, 8.3.1 and 5.6.6), and what is written of a media type.
use Rattle.std.specs.Prelude.{◌≡◌, ◌<◌, ◌≤◌, ℕ, ◌+◌, ◌==◌, false, List, [], ◌∷◌, ◌++◌, Option, Some, None, length, take, drop, slice_index}
use Rattle.std.specs.Prelude.{slice_range, map, unwrap_or, if◌then◌else◌}
use Rattle.std.specs.Option.{option_map}
use Rattle.mime.specs.Bytes.{is_token_byte, slash_byte, semicolon_byte, equals_byte, quote_byte}
use Rattle.mime.specs.Grammar.{is_space, IsContent, no_list}
use Rattle.mime.specs.Values.{MediaType, value_of}
use Rattle.mime.specs.Inner.KeptText.{lowered_pair}
use Rattle.mime.specs.Inner.Quoted.{awaits_after, continues}
use Rattle.mime.specs.declared.scan.fault.ParseError.{ParseError}
use Rattle.mime.specs.declared.scan.fault.ParseError.TheVariants.{MissingSlash, MissingSubtype, MissingEqual, MissingValue, MissingQuote}
use Rattle.mime.specs.declared.scan.fault.ParseError.TheVariants.{InvalidToken}
use Rattle.mime_http.specs.{Written.quote_of, Written.text_of_pairs, Written.with_pairs, declared.reader.Spans.Spans}

-- the parts of a media type as they stand in a value: its type, its subtype, and its parameters, quoted values without their quotes
pub record Parts : Type 0 where
  pub top : List ℕ
  pub sub : List ℕ
  pub pairs : List (List ℕ × List ℕ)

-- the parts with one parameter more
abbrev pub parts_with : Parts → List ℕ → List ℕ → Parts
parts_with parts name value = record parts { pairs = parts.pairs ++ ((name, value) ∷ []) }

-- What is read of the bytes of a value so far: white space or nothing; a part of the type, of the subtype, of a parameter's name, of its
-- value, or of a quoted string's content; or all before a semicolon or the end, or before the next parameter.
pub data State : Type 0 where
  before_type : State
  in_type : (top : List ℕ) → State
  in_subtype : (top sub : List ℕ) → State
  before_semicolon : (parts : Parts) → State
  after_semicolon : (parts : Parts) → State
  in_name : (parts : Parts) (name : List ℕ) → State
  in_value : (parts : Parts) (name value : List ℕ) → State
  in_string : (parts : Parts) (name content : List ℕ) → State

-- the state after a byte that ends a subtype or a parameter,
abbrev pub next_after : Parts → ℕ → Option State
next_after parts b =
    if is_space b then Some (before_semicolon parts) else if b == semicolon_byte then Some (after_semicolon parts) else None

-- and after any, if a media type may go on so
abbrev pub next : State → ℕ → Option State
next before_type b = if is_token_byte b then Some (in_type (b ∷ [])) else if is_space b then Some before_type else None
next (in_type top) b =
    if is_token_byte b then Some (in_type (top ++ (b ∷ []))) else if b == slash_byte then Some (in_subtype top []) else None
next (in_subtype top []) b = if is_token_byte b then Some (in_subtype top (b ∷ [])) else None
next (in_subtype top (s ∷ sub)) b =
    if is_token_byte b then Some (in_subtype top (s ∷ sub ++ (b ∷ []))) else next_after (record { top = top; sub = s ∷ sub; pairs = [] }) b
next (before_semicolon parts) b = next_after parts b
next (after_semicolon parts) b =
    if is_space b then Some (after_semicolon parts) else if is_token_byte b then Some (in_name parts (b ∷ [])) else
    if b == semicolon_byte then Some (after_semicolon parts) else None
next (in_name parts name) b =
    if is_token_byte b then Some (in_name parts (name ++ (b ∷ []))) else if b == equals_byte then Some (in_value parts name []) else None
next (in_value parts name []) b =
    if is_token_byte b then Some (in_value parts name (b ∷ [])) else if b == quote_byte then Some (in_string parts name []) else None
next (in_value parts name (v ∷ value)) b =
    if is_token_byte b then Some (in_value parts name ((v ∷ value) ++ (b ∷ []))) else next_after (parts_with parts name (v ∷ value)) b
next (in_string parts name content) b =
    if continues content b then Some (in_string parts name (content ++ (b ∷ []))) else
    if b == quote_byte then Some (before_semicolon (parts_with parts name content)) else None

-- the answer: a media type of these parts, or the fault
pub data Answer : Type 0 where
  read : (parts : Parts) → Answer
  rejected : (fault : ParseError) → Answer

-- the answer at the end of a value
abbrev pub answer_at_end : State → Answer
answer_at_end before_type = rejected MissingSlash
answer_at_end (in_type top) = rejected MissingSlash
answer_at_end (in_subtype top []) = rejected MissingSubtype
answer_at_end (in_subtype top (s ∷ sub)) = read (record { top = top; sub = s ∷ sub; pairs = [] })
answer_at_end (before_semicolon parts) = read parts
answer_at_end (after_semicolon parts) = read parts
answer_at_end (in_name parts name) = rejected MissingEqual
answer_at_end (in_value parts name []) = rejected MissingValue
answer_at_end (in_value parts name (v ∷ value)) = read (parts_with parts name (v ∷ value))
answer_at_end (in_string parts name content) = rejected MissingQuote

-- the answer from a state on, for the bytes that follow, of which the first stands at this position
abbrev pub answer_from : State → ℕ → List ℕ → Answer
answer_from state at [] = answer_at_end state
answer_from state at (b ∷ bytes) =
    unwrap_or (option_map (λ after. answer_from after (at + 1) bytes) (next state b)) (rejected (InvalidToken at b))

abbrev pub answer_of : List ℕ → Answer
answer_of value = answer_from before_type 0 value

-- what is written of a media type of these parts, and the media type
abbrev pub text_of_parts : Parts → List ℕ
text_of_parts parts = parts.top ++ (slash_byte ∷ (parts.sub ++ text_of_pairs parts.pairs))

abbrev pub media_of_parts : Parts → MediaType
media_of_parts parts = with_pairs (value_of (record { top = parts.top; sub = parts.sub; tail = no_list })) (map lowered_pair parts.pairs)

-- the answer from a state and a position of a value on
abbrev pub answer_at : List ℕ → State → ℕ → Answer
answer_at value state at = answer_from state at (drop at value)

-- the fault of a value in which nothing goes on at a position
abbrev pub fault_at : List ℕ → ℕ → ParseError → ParseError
fault_at value pos missing = if pos == length value then missing else InvalidToken pos (slice_index value pos)

-- in a state, from a position on, there is this fault; and so in a quoted string, if no backslash stands before it that pairs a byte
abbrev pub IsFaultFrom : List ℕ → (Parts → State) → ℕ → ParseError → Type 0
IsFaultFrom value state from fault = (parts : Parts) → answer_at value (state parts) from ≡ rejected fault

abbrev pub IsStringFault : List ℕ → ℕ → ParseError → Type 0
IsStringFault value from fault =
    (name content : List ℕ) → awaits_after false content ≡ false → IsFaultFrom value (λ parts. in_string parts name content) from fault

-- the content of a quoted string, from a position on, ends before the quote at another
pub record IsClosedAt (value : List ℕ) (from close : ℕ) : Type 0 where
  pub least : from ≤ close
  pub within : close < length value
  pub content : IsContent (slice_range value from close)
  pub quote : slice_index value close ≡ quote_byte

-- in a state, from a position on, a parameter of this name is read, and what is written of its value is a part of the whole value
pub record IsParameterAt (value name : List ℕ) (state : Parts → State) (from : ℕ) (spans : Spans) : Type 0 where
  pub content : List ℕ
  pub read : (parts : Parts)
      → answer_at value (state parts) from ≡ answer_at value (before_semicolon (parts_with parts name content)) spans.end
  pub written : quote_of content ++ (content ++ quote_of content) ≡ slice_range value spans.begin spans.last
  pub least : from ≤ spans.first
  pub apart : spans.first ≤ spans.begin
  pub some : spans.begin ≤ spans.last
  pub most : spans.last ≤ spans.end
  pub within : spans.end ≤ length value

-- the essence of a value stands from one position to another
pub record IsEssenceAt (value : List ℕ) (from to : ℕ) : Type 0 where
  pub top : List ℕ
  pub sub : List ℕ
  pub read : answer_of value ≡ answer_at value (before_semicolon (record { top = top; sub = sub; pairs = [] })) to
  pub written : top ++ (slash_byte ∷ sub) ≡ slice_range value from to
  pub least : from ≤ to
  pub within : to ≤ length value

-- a room holds the text of this length, if it has room for it
pub record RoomHolds (room : List ℕ) (len : ℕ) (text : List ℕ) : Type 0 where
  pub long : length text ≡ len
  pub held : len ≤ length room → take len room ≡ text
