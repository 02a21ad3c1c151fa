-- The laws: each call has exactly one outcome, unless memory runs out.
use Rattle.std.specs.Prelude.{◌≡◌, ◌≢◌, ℕ, Bool, List}
use Rattle.mime_c.specs.Answers.{ReadsTo, ListsTo, Compares}
use Rattle.mime_c.specs.HeaderAnswers.{HeaderReadsTo, AcceptsTo, BestIs, OrderIs}
use Rattle.mime_c.specs.ParameterAnswers.{BoundaryIs, UnescapesTo, SetsTo}
use Rattle.mime_c.specs.declared.TheConstants.{MIME_NO_MEMORY}

-- one outcome, and no other unless memory runs out: an answer, and what the caller's buffer and structs hold then
abbrev pub HasOne : {Held : Type 0} → (ℕ → Held → Type 0) → Type 0
HasOne {Held} IsOutcome = (answer : ℕ) × (held : Held) × (answer ≢ MIME_NO_MEMORY) × IsOutcome answer held
    × ((n : ℕ) (other : Held) → n ≢ MIME_NO_MEMORY → IsOutcome n other → (n ≡ answer) × (other ≡ held))

-- Unless memory runs out, `mime_read` of a text into a buffer has exactly one outcome.
abbrev pub ReadsToOne : Type 0
ReadsToOne = (text old : List ℕ) → HasOne (ReadsTo text old)

-- Unless memory runs out, `mime_list` of a text into a buffer has exactly one outcome.
abbrev pub ListsToOne : Type 0
ListsToOne = (text old : List ℕ) → HasOne (ListsTo text old)

-- Unless memory runs out, `mime_equal` of two texts has exactly one outcome.
abbrev pub ComparesAsOne : Type 0
ComparesAsOne = (one other : List ℕ) → HasOne (Compares one other)

-- Unless memory runs out, `mime_content_type` of a value into a buffer has exactly one outcome.
abbrev pub HeaderReadsToOne : Type 0
HeaderReadsToOne = (value old : List ℕ) → HasOne (HeaderReadsTo value old)

-- Unless memory runs out, `mime_accept` of a line into a buffer has exactly one outcome.
abbrev pub AcceptsToOne : Type 0
AcceptsToOne = (line old : List ℕ) → HasOne (AcceptsTo line old)

-- Unless memory runs out, `mime_best` of a header and a list of offers has exactly one outcome.
abbrev pub BestIsOne : Type 0
BestIsOne = (is_there : Bool) (line offers : List ℕ) → HasOne (BestIs is_there line offers)

-- Unless memory runs out, `mime_order` of a header and a list of offers has exactly one outcome.
abbrev pub OrderIsOne : Type 0
OrderIsOne = (is_there : Bool) (line offers old : List ℕ) → HasOne (OrderIs is_there line offers old)

-- Unless memory runs out, `mime_boundary` of a value into a buffer has exactly one outcome.
abbrev pub BoundaryIsOne : Type 0
BoundaryIsOne = (value old : List ℕ) → HasOne (BoundaryIs value old)

-- `mime_unescape` of a value into a buffer has exactly one outcome.
abbrev pub UnescapesToOne : Type 0
UnescapesToOne = (value old : List ℕ) → HasOne (UnescapesTo value old)

-- Unless memory runs out, `mime_set_parameter` of a media type, a name and a value into a buffer has exactly one outcome.
abbrev pub SetsToOne : Type 0
SetsToOne = (text name value old : List ℕ) → HasOne (SetsTo text name value old)
