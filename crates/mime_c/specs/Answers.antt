-- What each call answers, and what the caller's buffer and structs hold then.
use Rattle.std.specs.Prelude.{ℕ, ◌+◌, ◌*◌, ◌<◌, ◌≤◌, Bool, IsTrue, if◌then◌else◌, List, length, ◌↔◌, Contains}
use Rattle.std.specs.Str.{IsUtf8, IsValidUpTo}
use Rattle.mime.specs.Values.{MediaType, NeedsMemory, Reads, type_of, subtype_of}
use Rattle.mime.specs.Comparison.{Same}
use Rattle.mime.specs.Faults.{Explains}
use Rattle.mime.specs.Cut.{CutItem, good, Cut}
use Rattle.mime.specs.declared.scan.fault.ParseError.{ParseError}
use Rattle.mime.specs.declared.scan.fault.ParseError.TheVariants.{MissingSlash, MissingSubtype, MissingEqual, MissingValue, MissingQuote}
use Rattle.mime.specs.declared.scan.fault.ParseError.TheVariants.{InvalidToken}
use Rattle.mime.specs.declared.scan.fault.ParseError.TheVariants as fault
use Rattle.mime_http.specs.declared.value.FieldError.{FieldError}
use Rattle.mime_http.specs.declared.value.FieldError.TheVariants.{NotUtf8, Invalid, NoMemory}
use Rattle.mime_c.specs.Strings.{strings, ComeBack, parts_of, texts_of, item_texts, overwritten}
use Rattle.mime_c.specs.declared.MimeFound.{MimeFound}
use Rattle.mime_c.specs.declared.TheConstants.{MIME_OK, MIME_MISSING_SLASH, MIME_MISSING_SUBTYPE, MIME_MISSING_EQUAL, MIME_MISSING_VALUE}
use Rattle.mime_c.specs.declared.TheConstants.{MIME_MISSING_QUOTE, MIME_INVALID_BYTE, MIME_NO_MEMORY, MIME_NOT_UTF8, MIME_NO_ROOM}

-- the number of a fault, and of why a text or a value isn't read
abbrev pub number_of : ParseError → ℕ
number_of MissingSlash = MIME_MISSING_SLASH
number_of MissingSubtype = MIME_MISSING_SUBTYPE
number_of MissingEqual = MIME_MISSING_EQUAL
number_of MissingValue = MIME_MISSING_VALUE
number_of MissingQuote = MIME_MISSING_QUOTE
number_of (InvalidToken pos byte) = MIME_INVALID_BYTE
number_of fault.NoMemory = MIME_NO_MEMORY

abbrev pub number_of_error : FieldError → ℕ
number_of_error (NotUtf8 pos) = MIME_NOT_UTF8
number_of_error (Invalid fault) = number_of fault
number_of_error NoMemory = MIME_NO_MEMORY

-- what is found then: the invalid byte and its position, or, with 0 for the byte, how much is UTF-8; and nothing else
abbrev pub found_at : ℕ → ℕ → MimeFound
found_at pos byte = record { length = 0; params = 0; printed = 0; slash = 0; subtype_end = 0; pos = pos; byte = byte }

abbrev pub nothing_found : MimeFound
nothing_found = found_at 0 0

abbrev pub found_of_error : FieldError → MimeFound
found_of_error (NotUtf8 pos) = found_at pos 0
found_of_error (Invalid (InvalidToken pos byte)) = found_at pos byte
found_of_error other = nothing_found

-- what is found of a media type: how many bytes its strings are, how many parameters there are, where the string begins that it is
-- printed as, and where in the essence, which begins with type, slash and subtype, the slash is and the subtype ends
abbrev pub found_of : MediaType → MimeFound
found_of media = record nothing_found {
  length = length (strings (texts_of media));
  params = length media.pairs;
  printed = length (strings (parts_of media));
  slash = length (type_of media);
  subtype_end = length (type_of media) + 1 + length (subtype_of media);
}

-- ---- In the following, `Held` is what the caller's buffer and structs hold after a call.

-- a call needs a buffer of so many bytes: in a shorter one it finds no room, and the buffer and the structs are as `untouched` says
pub data InRoom {Held : Type 0} (least : ℕ) (old : List ℕ) (untouched : Held) (Is : ℕ → Held → Type 0) : ℕ → Held → Type 0 where
  has_room : (answer : ℕ) (held : Held) → least ≤ length old → Is answer held → InRoom least old untouched Is answer held
  has_no_room : length old < least → InRoom least old untouched Is MIME_NO_ROOM untouched

-- a call succeeds, and this is held then
pub data Succeeds {Held : Type 0} (wanted : Held) : ℕ → Held → Type 0 where
  succeeds : Succeeds wanted MIME_OK wanted

-- a call reads a media type first: it goes on with that, or says why there is none, and `failed` says what is held with what is found then
pub data Of {Held : Type 0} (IsMedia : MediaType → Type 0) (Explained : FieldError → Type 0) (failed : MimeFound → Held)
    (Is : MediaType → ℕ → Held → Type 0) : ℕ → Held → Type 0 where
  has_media : (media : MediaType) (answer : ℕ) (held : Held) → IsMedia media → Is media answer held
      → Of IsMedia Explained failed Is answer held
  fails : (error : FieldError) → Explained error → Of IsMedia Explained failed Is (number_of_error error) (failed (found_of_error error))

-- why a text isn't read as a media type; that memory runs out is a fault of `mime`
abbrev pub TextExplains : List ℕ → FieldError → Type 0
TextExplains text (NotUtf8 pos) = ¬ (IsUtf8 text) × IsValidUpTo text pos
TextExplains text (Invalid fault) = IsUtf8 text × Explains text fault
TextExplains text NoMemory = ⊥

-- a call reads a whole text as a media type of `mime`
abbrev pub OfText : {Held : Type 0} → List ℕ → (MimeFound → Held) → (MediaType → ℕ → Held → Type 0) → ℕ → Held → Type 0
OfText text failed Is = Of (λ media. IsUtf8 text × Reads text media) (TextExplains text) failed Is

-- a call writes the strings of a media type, and finds what `found_of` says
pub data AreWritten (old : List ℕ) (media : MediaType) : ℕ → List ℕ × MimeFound → Type 0 where
  are_written : ComeBack (texts_of media) → AreWritten old media MIME_OK (overwritten (strings (texts_of media)) old, found_of media)

-- `mime_read` of a text, with the caller's buffer: the answer, and what the buffer holds then and what is found
abbrev pub ReadsTo : List ℕ → List ℕ → ℕ → List ℕ × MimeFound → Type 0
ReadsTo text old = InRoom (2 * length text + 2) old (old, nothing_found) (OfText text (λ found. (old, found)) (AreWritten old))

-- an item of the text's cut is a media type that needs memory
abbrev pub ListNeedsMemory : List ℕ → Type 0
ListNeedsMemory text = (items : List CutItem) × (rest piece : List ℕ) × (media : MediaType) × Cut text items rest
    × Contains items (good piece media) × NeedsMemory media

-- `mime_list` of a text, with the caller's buffer: the answer, and what the buffer holds then and how many bytes were written
pub data AreListed (text old : List ℕ) : ℕ → List ℕ × ℕ → Type 0 where
  is_listed : (items : List CutItem) (rest : List ℕ) → IsUtf8 text → Cut text items rest → ComeBack (item_texts items)
      → AreListed text old MIME_OK (overwritten (strings (item_texts items)) old, length (strings (item_texts items)))
  has_no_memory : (new : List ℕ) → IsUtf8 text → ListNeedsMemory text → AreListed text old MIME_NO_MEMORY (new, 0)
  is_not_text : ¬ (IsUtf8 text) → AreListed text old MIME_NOT_UTF8 (old, 0)

abbrev pub ListsTo : List ℕ → List ℕ → ℕ → List ℕ × ℕ → Type 0
ListsTo text old = InRoom (2 * length text) old (old, 0) (AreListed text old)

-- `mime_equal` of two texts: the answer, and 1 if both are read as equal media types, else 0
pub data AreCompared (first second : MediaType) : ℕ → ℕ → Type 0 where
  are_compared : (equal : Bool) → IsTrue equal ↔ Same first second → AreCompared first second MIME_OK (if equal then 1 else 0)

abbrev pub Compares : List ℕ → List ℕ → ℕ → ℕ → Type 0
Compares one other = OfText one (λ found. 0) (λ first. OfText other (λ found. 0) (AreCompared first))
