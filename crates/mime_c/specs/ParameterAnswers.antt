-- What the calls for parameters answer, and what the caller's buffer holds then and how long the text in it is.
use Rattle.std.specs.Prelude.{ℕ, ◌+◌, ◌*◌, List, [], ◌∷◌, length}
use Rattle.std.specs.Str.{IsUtf8}
use Rattle.mime.specs.Grammar.{IsToken}
use Rattle.mime.specs.HeaderLaws.{AreHeaderBytes}
use Rattle.mime.specs.Values.{MediaType, lowered, lowered_value}
use Rattle.mime_http.specs.Boundary.{IsBoundaryOf}
use Rattle.mime_http.specs.Unescaped.{unescaped}
use Rattle.mime_http.specs.Written.{escaped, with_pair}
use Rattle.mime_c.specs.Strings.{ComeBack, string_in}
use Rattle.mime_c.specs.Answers.{InRoom, Succeeds}
use Rattle.mime_c.specs.HeaderAnswers.{OfValue}
use Rattle.mime_c.specs.declared.TheConstants.{MIME_OK, MIME_NO_MEMORY, MIME_NO_BOUNDARY, MIME_BAD_PARAMETER}

-- `mime_boundary` of a value, with the caller's buffer. One of the most bytes, which are 70, has a 0 after it
pub data AnswersBoundary (old : List ℕ) (media : MediaType) : ℕ → List ℕ × ℕ → Type 0 where
  boundary_is : (boundary : List ℕ) → IsBoundaryOf media boundary → ComeBack (boundary ∷ [])
      → AnswersBoundary old media MIME_OK (string_in old boundary)
  has_no_boundary : ((boundary : List ℕ) → ¬ (IsBoundaryOf media boundary)) → AnswersBoundary old media MIME_NO_BOUNDARY (old, 0)
  boundary_has_no_memory : AnswersBoundary old media MIME_NO_MEMORY (old, 0)

abbrev pub BoundaryIs : List ℕ → List ℕ → ℕ → List ℕ × ℕ → Type 0
BoundaryIs value old = InRoom 71 old (old, 0) (OfValue value (λ found. (old, 0)) (AnswersBoundary old))

-- `mime_unescape` of a value, with the caller's buffer
abbrev pub UnescapesTo : List ℕ → List ℕ → ℕ → List ℕ × ℕ → Type 0
UnescapesTo value old = InRoom (length value + 1) old (old, 0) (Succeeds (string_in old (unescaped value)))

-- how many bytes a media type with a parameter has at most, with a 0 after it
abbrev pub room_with : List ℕ → List ℕ → List ℕ → ℕ
room_with text name value = 2 * length text + length name + 2 * length value + 6

-- a parameter that a media type can have
pub record CanBeParameter (name value : List ℕ) : Type 0 where
  pub name_utf8 : IsUtf8 name
  pub value_utf8 : IsUtf8 value
  pub named : IsToken name
  pub safe : AreHeaderBytes value

-- the media type with that parameter in place of those of its name
abbrev pub set_parameter : MediaType → List ℕ → List ℕ → MediaType
set_parameter media name value = with_pair media (lowered name) (lowered_value name (escaped value))

-- `mime_set_parameter` of a media type, a name and a value, with the caller's buffer
pub data IsSet (name value old : List ℕ) (media : MediaType) : ℕ → List ℕ × ℕ → Type 0 where
  is_set : CanBeParameter name value → ComeBack ((set_parameter media name value).kept ∷ [])
      → IsSet name value old media MIME_OK (string_in old (set_parameter media name value).kept)
  isnt_parameter : ¬ (CanBeParameter name value) → IsSet name value old media MIME_BAD_PARAMETER (old, 0)
  set_has_no_memory : IsSet name value old media MIME_NO_MEMORY (old, 0)

abbrev pub SetsTo : List ℕ → List ℕ → List ℕ → List ℕ → ℕ → List ℕ × ℕ → Type 0
SetsTo text name value old = InRoom (room_with text name value) old (old, 0) (OfValue text (λ found. (old, 0)) (IsSet name value old))
