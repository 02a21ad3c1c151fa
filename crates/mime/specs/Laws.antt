-- The laws: what follows from only the definitions.
use Rattle.std.specs.Prelude.{◌≡◌, ◌≢◌, ℕ, ◌+◌, ◌<◌, ◌≤◌, ◌⊎◌, Bool, List, [], ◌∷◌, ◌++◌, slice_get, Option, Some, None, MatchOption, ◌↔◌}
use Rattle.std.specs.Str.{IsUtf8, IsCharBoundary}
use Rattle.mime.specs.Bytes.{slash_byte, plus_byte}
use Rattle.mime.specs.Grammar.{SyntaxTree, text_of, IsWellFormed}
use Rattle.mime.specs.Values.{MediaType, Reads, IsAccepted, IsRejected, lowered, type_of, subtype_of, suffix_of}
use Rattle.mime.specs.Comparison.{Same, Before, IsOrderOf, TextIs}
use Rattle.mime.specs.Difference.{DifferInValue}
use Rattle.mime.specs.Faults.{IsViable, IsLongest, IsLongestPrefix, Lacks, IsFault}
use Rattle.mime.specs.Items.{Item, IsFirstAccepted}
use Rattle.mime.specs.declared.scan.fault.ParseError.{ParseError}

-- exactly one thing has a property
abbrev pub ExactlyOne : {X : Type 0} → (X → Type 0) → Type 0
ExactlyOne {X} Is = (one : X) × Is one × ((other : X) → Is other → other ≡ one)

-- A text is spelled by at most one well-formed tree.
abbrev pub OneTree : Type 0
OneTree = (first second : SyntaxTree) → IsWellFormed first → IsWellFormed second → text_of first ≡ text_of second → first ≡ second

-- A text is read as at most one value.
abbrev pub OneReading : Type 0
OneReading = (text : List ℕ) (first second : MediaType) → Reads text first → Reads text second → first ≡ second

-- A text is accepted or rejected.
abbrev pub AcceptedOrRejected : Type 0
AcceptedOrRejected = (text : List ℕ) → IsAccepted text ⊎ IsRejected text

-- The empty text is viable.
abbrev pub EmptyIsViable : Type 0
EmptyIsViable = IsViable []

-- Each prefix of a viable text is viable.
abbrev pub PrefixOfViableIsViable : Type 0
PrefixOfViableIsViable = (prefix more : List ℕ) → IsViable (prefix ++ more) → IsViable prefix

-- An accepted text is viable.
abbrev pub AcceptedIsViable : Type 0
AcceptedIsViable = (text : List ℕ) → IsAccepted text → IsViable text

-- A viable rejected text has exactly one of five faults: the fault's completion makes it an accepted text.
abbrev pub OneCompletion : Type 0
OneCompletion = (text : List ℕ) → IsViable text → IsRejected text → ExactlyOne (Lacks text)

-- A text that lacks something is rejected.
abbrev pub CompletedIsRejected : Type 0
CompletedIsRejected = (text : List ℕ) (fault : ParseError) → Lacks text fault → IsRejected text

-- A text that isn't viable is rejected, whatever follows it.
abbrev pub NoCompletion : Type 0
NoCompletion = (text more : List ℕ) → ¬ (IsViable text) → IsRejected (text ++ more)

-- A rejected text has exactly one fault.
abbrev pub OneFault : Type 0
OneFault = (text : List ℕ) → IsRejected text → ExactlyOne (IsFault text)

-- A text has exactly one longest viable prefix.
abbrev pub OneLongestPrefix : Type 0
OneLongestPrefix = (text : List ℕ) → ExactlyOne (IsLongestPrefix text)

-- The longest viable prefix of a text of valid UTF-8 ends between characters.
abbrev pub PrefixEndsBetweenCharacters : Type 0
PrefixEndsBetweenCharacters = (text : List ℕ) (count : ℕ) → IsUtf8 text → IsLongestPrefix text count → IsCharBoundary text count

-- some accepted text of valid UTF-8 begins with these bytes
abbrev pub IsViableInUtf8 : List ℕ → Type 0
IsViableInUtf8 prefix = (more : List ℕ) × IsUtf8 (prefix ++ more) × IsAccepted (prefix ++ more)

-- In a text of valid UTF-8 the longest viable prefix is the same whether it may be completed by any bytes or only to a text of
-- valid UTF-8.
abbrev pub PrefixIsInUtf8 : Type 0
PrefixIsInUtf8 = (text : List ℕ) (count : ℕ) → IsUtf8 text → IsLongestPrefix text count ↔ IsLongest IsViableInUtf8 text count

-- the text has no plus at position `from` or later, in bytes from 0
abbrev pub HasNoPlusFrom : List ℕ → ℕ → Type 0
HasNoPlusFrom text from = (position : ℕ) → from ≤ position → slice_get text position ≢ Some plus_byte

-- The plus of a value is the last one of its essence after the subtype's first byte, if there is one.
abbrev pub PlusIsLast : Type 0
PlusIsLast = (text : List ℕ) (value : MediaType) → Reads text value
    → MatchOption value.plus (HasNoPlusFrom value.essence (value.slash + 2)) (λ position. (value.slash + 1 < position)
    × (slice_get value.essence position ≡ Some plus_byte) × HasNoPlusFrom value.essence (position + 1))

-- The kept text of a value that was read is read as the value.
abbrev pub KeptIsRead : Type 0
KeptIsRead = (text : List ℕ) (value : MediaType) → Reads text value → Reads value.kept value

-- the value without its parameters
abbrev pub without_parameters : MediaType → MediaType
without_parameters value = record value { pairs = []; kept = value.essence }

-- The essence of a value that was read is read as the value without its parameters.
abbrev pub EssenceIsRead : Type 0
EssenceIsRead = (text : List ℕ) (value : MediaType) → Reads text value → Reads value.essence (without_parameters value)

-- a plus and the suffix, or nothing if there is none
abbrev pub suffix_text : Option (List ℕ) → List ℕ
suffix_text None = []
suffix_text (Some suffix) = plus_byte ∷ suffix

-- The essence of a value that was read is its type, a slash, its subtype, and a plus with its suffix if there is one.
abbrev pub EssenceIsParts : Type 0
EssenceIsParts = (text : List ℕ) (value : MediaType) → Reads text value
    → value.essence ≡ type_of value ++ (slash_byte ∷ (subtype_of value ++ suffix_text (suffix_of value)))

-- the same type, subtype and suffix
abbrev pub HaveSameParts : MediaType → MediaType → Type 0
HaveSameParts first second =
    (type_of first ≡ type_of second) × (subtype_of first ≡ subtype_of second) × (suffix_of first ≡ suffix_of second)

-- Two values that were read have the same essence exactly if they have the same type, subtype and suffix.
abbrev pub SameEssence : Type 0
SameEssence = (one other : List ℕ) (first second : MediaType) → Reads one first → Reads other second
    → (first.essence ≡ second.essence) ↔ HaveSameParts first second

-- Exactly one of the three is so: a value is before another, they are equal, or it is after the other.
abbrev pub OneOrder : Type 0
OneOrder = (first second : MediaType) → ExactlyOne (IsOrderOf first second)

-- If a value is before a second one, and that is before a third, the first is before the third.
abbrev pub BeforeIsTransitive : Type 0
BeforeIsTransitive = (first second third : MediaType) → Before first second → Before second third → Before first third

-- A text is equal to a value without parameters exactly if the text, lowercased, is the kept text.
abbrev pub BareTextIs : Type 0
BareTextIs = (text : List ℕ) (value : MediaType) → Reads text value → value.pairs ≡ [] → (other : List ℕ)
    → TextIs value other ↔ (lowered other ≡ value.kept)

-- A value is equal to the kept text of a value that was read exactly if the two values are equal.
abbrev pub KeptTextIs : Type 0
KeptTextIs = (text : List ℕ) (value : MediaType) → Reads text value → (other : MediaType) → TextIs other value.kept ↔ Same other value

-- each name is accepted or isn't
abbrev pub IsDecided : (List ℕ → Bool → Type 0) → Type 0
IsDecided Accepts = (name : List ℕ) (ignores_case : Bool) → Accepts name ignores_case ⊎ ¬ (Accepts name ignores_case)

-- A key finds at most one answer in a list of items.
abbrev pub OneAnswer : (List ℕ → Bool → Type 0) → Type 0
OneAnswer Accepts = (items : List Item) (found other : Option (List ℕ × Bool)) → IsFirstAccepted Accepts items found
    → IsFirstAccepted Accepts items other → other ≡ found

-- A key that accepts each name or doesn't finds an answer in a list of items.
abbrev pub HasAnswer : (List ℕ → Bool → Type 0) → Type 0
HasAnswer Accepts = IsDecided Accepts → (items : List Item) → (found : Option (List ℕ × Bool)) × IsFirstAccepted Accepts items found

-- Texts whose first difference reaches the value are not read as equal values.
abbrev pub FirstDifferenceDecides : Type 0
FirstDifferenceDecides = (one other : List ℕ) (first second : MediaType) → Reads one first → Reads other second
    → DifferInValue one other → ¬ (Same first second)
