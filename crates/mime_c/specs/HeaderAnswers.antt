-- What the calls for headers answer, and what the caller's buffer and structs hold then.
use Rattle.std.specs.Prelude.{◌≡◌, ◌≢◌, ℕ, ◌+◌, ◌*◌, Bool, List, [], ◌∷◌, ◌++◌, length, if◌then◌else◌, Some, None, flat_map}
use Rattle.mime.specs.Values.{MediaType}
use Rattle.mime_http.specs.HttpFaults.{HttpExplains}
use Rattle.mime_http.specs.HttpList.{FieldReads, Header, IsHeader, IsFirstBad}
use Rattle.mime_http.specs.Ranges.{weight_of, best_offer, AreInOrder}
use Rattle.mime_http.specs.Weight.{four_digits}
use Rattle.mime_c.specs.Strings.{strings, ComeBack, parts_of, overwritten}
use Rattle.mime_c.specs.Answers.{nothing_found, InRoom, Succeeds, Of, AreWritten}
use Rattle.mime_c.specs.declared.MimeFound.{MimeFound}
use Rattle.mime_c.specs.declared.TheConstants.{MIME_OK, MIME_NO_MEMORY, MIME_NOT_ACCEPTABLE, MIME_BAD_OFFER}

-- a call reads a header's value as a media type that HTTP allows: it is printed as `mime_read` prints it, or anew if `mime_read` rejects it
-- without the white space around it
abbrev pub OfValue : {Held : Type 0} → List ℕ → (MimeFound → Held) → (MediaType → ℕ → Held → Type 0) → ℕ → Held → Type 0
OfValue value failed Is = Of (FieldReads value) (HttpExplains value) failed Is

-- `mime_content_type` of a value, with the caller's buffer: the answer, and what the buffer holds then and what is found
abbrev pub HeaderReadsTo : List ℕ → List ℕ → ℕ → List ℕ × MimeFound → Type 0
HeaderReadsTo value old = InRoom (3 * length value + 2) old (old, nothing_found) (OfValue value (λ found. (old, found)) (AreWritten old))

-- the texts of a range: its weight in thousandths, its parts, and an empty one, which no name of a parameter is
abbrev pub range_texts : MediaType → List (List ℕ)
range_texts range = four_digits (weight_of range) ∷ (parts_of range ++ [] ∷ [])

-- those of a header's ranges
abbrev pub ranges_texts : List MediaType → List (List ℕ)
ranges_texts ranges = flat_map range_texts ranges

-- lines without an entry, for which no memory is needed
abbrev pub HaveNoEntry : List (List ℕ) → Type 0
HaveNoEntry lines = IsHeader lines (record { ranges = []; bad = [] })

-- `mime_accept` of a line, with the caller's buffer: the answer, and what the buffer holds then, how many bytes were written, and how many
-- entries are bad
pub data AreRanges (line old : List ℕ) : ℕ → List ℕ × ℕ × ℕ → Type 0 where
  are_ranges : (header : Header) → IsHeader (line ∷ []) header → ComeBack (ranges_texts header.ranges)
      → AreRanges line old MIME_OK
      (overwritten (strings (ranges_texts header.ranges)) old, length (strings (ranges_texts header.ranges)), length header.bad)
  ranges_have_no_memory : ¬ (HaveNoEntry (line ∷ [])) → AreRanges line old MIME_NO_MEMORY (old, 0, 0)

abbrev pub AcceptsTo : List ℕ → List ℕ → ℕ → List ℕ × ℕ × ℕ → Type 0
AcceptsTo line old = InRoom (3 * length line + 3) old (old, 0, 0) (AreRanges line old)

-- ---- offers

-- the lines of a header of one line, or of none
abbrev pub header_lines : Bool → List ℕ → List (List ℕ)
header_lines is_there line = if is_there then line ∷ [] else []

-- a call reads a list of offers and a header, which may be missing: it goes on with both, or finds the position of the first bad offer, and
-- `failed` says what is held then
pub data OfOffers {Held : Type 0} (is_there : Bool) (line offers : List ℕ) (failed : ℕ → Held)
    (Is : List MediaType → List MediaType → ℕ → Held → Type 0) : ℕ → Held → Type 0 where
  are_offers : (header offered : Header) (answer : ℕ) (held : Held) → IsHeader (header_lines is_there line) header
      → IsHeader (offers ∷ []) offered → offered.bad ≡ [] → Is header.ranges offered.ranges answer held
      → OfOffers is_there line offers failed Is answer held
  an_offer_is_bad : (at : ℕ) → IsFirstBad (offers ∷ []) at → OfOffers is_there line offers failed Is MIME_BAD_OFFER (failed at)
  offers_have_no_memory : ¬ (HaveNoEntry (offers ∷ []) × HaveNoEntry (header_lines is_there line))
      → OfOffers is_there line offers failed Is MIME_NO_MEMORY (failed 0)

-- `mime_best` of a header and a list of offers: the answer, and the position of the best or of the first bad offer, or 0
pub data IsBest (ranges offers : List MediaType) : ℕ → ℕ → Type 0 where
  best_is : (at : ℕ) → best_offer ranges offers ≡ Some at → IsBest ranges offers MIME_OK at
  none_is_best : best_offer ranges offers ≡ None → IsBest ranges offers MIME_NOT_ACCEPTABLE 0

abbrev pub BestIs : Bool → List ℕ → List ℕ → ℕ → ℕ → Type 0
BestIs is_there line offers = OfOffers is_there line offers (λ at. at) IsBest

-- `mime_order` of a header and a list of offers, with the caller's places: the answer, and what the places hold then and how many offers
-- are acceptable, or the position of the first bad one. There may be fewer places than acceptable offers
pub data IsOrder (old : List ℕ) (ranges offers : List MediaType) : ℕ → List ℕ × ℕ → Type 0 where
  order_is : (order : List ℕ) (answer : ℕ) (held : List ℕ × ℕ) → AreInOrder ranges offers order → order ≢ []
      → InRoom (length order) old (old, 0) (Succeeds (overwritten order old, length order)) answer held
      → IsOrder old ranges offers answer held
  none_is_ordered : AreInOrder ranges offers [] → IsOrder old ranges offers MIME_NOT_ACCEPTABLE (old, 0)

abbrev pub OrderIs : Bool → List ℕ → List ℕ → List ℕ → ℕ → List ℕ × ℕ → Type 0
OrderIs is_there line offers old = OfOffers is_there line offers (λ at. (old, at)) (IsOrder old)
