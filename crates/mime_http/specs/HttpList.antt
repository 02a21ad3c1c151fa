-- The ranges and the bad entries of a header's lines, which are lists of media types (RFC 9110, 5.6.1.2 and 12.5.1) or any others; and what
-- is printed for a media type. OWS (5.6.3) is the `AreSpaces` of `mime`.
use Rattle.std.specs.Prelude.{◌≡◌, ℕ, suc, Bool, false, List, [], ◌∷◌, ◌++◌, ◌==◌, ◌&&◌, IsFalse, if◌then◌else◌, codes}
use Rattle.std.specs.{List.list_all, Str.IsUtf8}
use Rattle.mime.specs.Bytes.{comma_byte, equals_byte, quote_byte, backslash_byte}
use Rattle.mime.specs.Grammar.{is_space, AreSpaces}
use Rattle.mime.specs.Values.{MediaType, Reads, IsAccepted}
use Rattle.mime_http.specs.{HttpMediaType.HttpReads, HttpMediaType.IsHttpMediaType, Written.with_pairs}

-- the lines of a header; for a request without the header, one line that accepts everything (12.5.1)
abbrev pub lines_or_any : List (List ℕ) → List (List ℕ)
lines_or_any [] = codes "*/*" ∷ []
lines_or_any (line ∷ lines) = line ∷ lines

-- the texts between commas of lines; each line's last is of the second kind, and the others are of the first
pub data AreBetweenCommas (Other Last : List ℕ → Type 0) : List (List ℕ) → List (List ℕ) → Type 0 where
  no_line : AreBetweenCommas Other Last [] []
  line_end : (text : List ℕ) (lines texts : List (List ℕ)) → Last text → AreBetweenCommas Other Last lines texts
      → AreBetweenCommas Other Last (text ∷ lines) (text ∷ texts)
  comma : (text line : List ℕ) (lines texts : List (List ℕ)) → Other text → AreBetweenCommas Other Last (line ∷ lines) texts
      → AreBetweenCommas Other Last ((text ++ (comma_byte ∷ line)) ∷ lines) (text ∷ texts)

-- bytes without the white space around them
abbrev pub trim_start : List ℕ → List ℕ
trim_start [] = []
trim_start (b ∷ bytes) = if is_space b then trim_start bytes else b ∷ bytes

abbrev pub trim_end : List ℕ → List ℕ
trim_end [] = []
trim_end (b ∷ bytes) = if list_all is_space (b ∷ bytes) then [] else b ∷ trim_end bytes

abbrev pub trimmed : List ℕ → List ℕ
trimmed bytes = trim_end (trim_start bytes)

-- What is printed for a value that is this media type. If `mime` accepts the value without the white space around it, that is printed as
-- `mime` prints it; if not, the value is printed anew: its essence, and each parameter after a semicolon and a space.
pub data IsPrinted : List ℕ → MediaType → Type 0 where
  as_it_stands : (value : List ℕ) (media : MediaType) → Reads (trimmed value) media → IsPrinted value media
  anew : (value : List ℕ) (media : MediaType) → ¬ (IsAccepted (trimmed value)) → media ≡ with_pairs media media.pairs
      → IsPrinted value media

-- a header's value is read as this media type: it is in UTF-8, HTTP allows it, and this is printed for it
abbrev pub FieldReads : List ℕ → MediaType → Type 0
FieldReads value media = IsUtf8 value × HttpReads value media × IsPrinted value media

-- what texts are, in their order: only white space is nothing, OWS media-type OWS in UTF-8 is a range, and any other text is a bad entry.
-- A range is printed like the value of a header with one media type
pub data AreSorted : List (List ℕ) → List MediaType → List (List ℕ) → Type 0 where
  no_text : AreSorted [] [] []
  blank : (text : List ℕ) (texts : List (List ℕ)) (ranges : List MediaType) (bad : List (List ℕ)) → AreSpaces text
      → AreSorted texts ranges bad → AreSorted (text ∷ texts) ranges bad
  a_range : (text : List ℕ) (range : MediaType) (texts : List (List ℕ)) (ranges : List MediaType) (bad : List (List ℕ)) → IsUtf8 text
      → HttpReads text range → IsPrinted text range → AreSorted texts ranges bad → AreSorted (text ∷ texts) (range ∷ ranges) bad
  a_bad : (text : List ℕ) (texts : List (List ℕ)) (ranges : List MediaType) (bad : List (List ℕ)) → ¬ (AreSpaces text)
      → ¬ (IsUtf8 text × IsHttpMediaType text) → AreSorted texts ranges bad → AreSorted (text ∷ texts) ranges (trimmed text ∷ bad)

-- what is between a string's quotes, of any bytes: a quote occurs only in a quoted pair
pub data IsInString : List ℕ → Type 0 where
  string_end : IsInString []
  string_byte : (b : ℕ) (content : List ℕ) → IsFalse (b == quote_byte) → IsFalse (b == backslash_byte) → IsInString content
      → IsInString (b ∷ content)
  string_pair : (b : ℕ) (content : List ℕ) → IsInString content → IsInString (backslash_byte ∷ b ∷ content)

-- the bytes begin with an equals sign and a quote, which open a string
abbrev pub opens_string : List ℕ → Bool
opens_string (b ∷ c ∷ bytes) = b == equals_byte && c == quote_byte
opens_string bytes = false

-- bytes with no comma outside strings, each of which is closed; and what such bytes begin with, of which a string may be open at the end
pub data IsPiece : List ℕ → Type 0 where
  piece_end : IsPiece []
  piece_byte : (b : ℕ) (piece : List ℕ) → IsFalse (b == comma_byte) → IsFalse (opens_string (b ∷ piece)) → IsPiece piece
      → IsPiece (b ∷ piece)
  piece_string : (content piece : List ℕ) → IsInString content → IsPiece piece
      → IsPiece (equals_byte ∷ quote_byte ∷ (content ++ (quote_byte ∷ piece)))

abbrev pub BeginsPiece : List ℕ → Type 0
BeginsPiece text = (more : List ℕ) × IsPiece (text ++ more)

-- what is read of a header's lines, which are one list (5.3): each is cut at its commas outside strings, and an open string ends with it
pub record Header : Type 0 where
  pub ranges : List MediaType
  pub bad : List (List ℕ)

pub record IsHeader (lines : List (List ℕ)) (header : Header) : Type 0 where
  pub pieces : List (List ℕ)
  pub cut : AreBetweenCommas IsPiece BeginsPiece (lines_or_any lines) pieces
  pub sorted : AreSorted pieces header.ranges header.bad

-- the position of the first bad text among the ranges and the bad texts, from 0: only white space and ranges come before it
pub data FirstBad : List (List ℕ) → ℕ → Type 0 where
  bad_here : (text : List ℕ) (texts : List (List ℕ)) → ¬ (AreSpaces text) → ¬ (IsUtf8 text × IsHttpMediaType text)
      → FirstBad (text ∷ texts) 0
  after_blank : (text : List ℕ) (texts : List (List ℕ)) (at : ℕ) → AreSpaces text → FirstBad texts at → FirstBad (text ∷ texts) at
  after_range : (text : List ℕ) (texts : List (List ℕ)) (at : ℕ) → IsUtf8 text → IsHttpMediaType text → FirstBad texts at
      → FirstBad (text ∷ texts) (suc at)

-- the position of a header's first bad entry among its entries, from 0
pub record IsFirstBad (lines : List (List ℕ)) (at : ℕ) : Type 0 where
  pub pieces : List (List ℕ)
  pub cut : AreBetweenCommas IsPiece BeginsPiece (lines_or_any lines) pieces
  pub first : FirstBad pieces at
