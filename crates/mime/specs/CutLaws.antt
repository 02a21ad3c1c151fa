-- The laws of the cut, and of whole runs: what the calls of `next` on a `MimeIter` return, up to the first `None`.
use Rattle.std.specs.Prelude.{◌≡◌, ◌≢◌, ◌⊎◌, ℕ, Bool, ◌||◌, ◌==◌, IsTrue, List, [], ◌∷◌, ◌++◌, map, Result, Ok, Err}
use Rattle.std.specs.List.{AllByRecursion}
use Rattle.mime.specs.Values.{MediaType, NeedsMemory, Reads, IsAccepted, IsRejected, OwnedMedia}
use Rattle.mime.specs.Faults.{IsViable, IsUnclosed}
use Rattle.std.specs.Char.{IsScalar, encode_utf8}
use Rattle.std.specs.Str.{IsUtf8}
use Rattle.mime.specs.Bytes.{comma_byte, space_byte}
use Rattle.mime.specs.Grammar.{is_space}
use Rattle.mime.specs.Cut.{IsSplit, CutItem, good, bad, Cut, Pieces, TakesSteps}
use Rattle.std.specs.Borrow.{Bor}
use Rattle.std.specs.Iterator.{Drains}
use Rattle.mime.specs.Laws.{ExactlyOne}
use Rattle.mime.specs.Runs.{Iteration, IsNext}
use Rattle.mime.specs.declared.iter.Bad.{Bad}
use Rattle.mime.specs.declared.iter.Bad.TheVariants.{Piece, NoMemory}

-- A text has exactly one cut.
abbrev pub OneCut : Type 0
OneCut = (text : List ℕ) → (items : List CutItem) × (rest : List ℕ) × Cut text items rest
    × ((others : List CutItem) (left : List ℕ) → Cut text others left → (others ≡ items) × (left ≡ rest))

-- what an item is: a good piece is read as its value, and a bad one is viable, rejected and not empty
abbrev pub IsItem : CutItem → Type 0
IsItem (good piece value) = Reads piece value
IsItem (bad piece) = IsViable piece × IsRejected piece × (piece ≢ [])

-- Each item of a cut is a piece that is read as its value, or a viable rejected one that isn't empty. The rest is viable and rejected.
abbrev pub CutHasItems : Type 0
CutHasItems = (text : List ℕ) (items : List CutItem) (rest : List ℕ) → Cut text items rest
    → AllByRecursion IsItem items × IsViable rest × IsRejected rest

-- the text of the pieces, with the character after each, and of the last piece
abbrev pub text_of_pieces : List (List ℕ × List ℕ) → List ℕ → List ℕ
text_of_pieces [] end = end
text_of_pieces ((piece, character) ∷ pieces) end = piece ++ (character ++ text_of_pieces pieces end)

-- A text is pieces, a character after each, and a last piece, which is accepted or is the rest of the text's cut.
abbrev pub CutWritesText : Type 0
CutWritesText = (text : List ℕ) (items : List CutItem) (rest : List ℕ) → Cut text items rest
    → (pieces : List (List ℕ × List ℕ)) × (end : List ℕ) × Pieces text pieces end
    × (text_of_pieces pieces end ≡ text) × (IsAccepted end ⊎ (end ≡ rest))

-- A text is cut in exactly one number of steps.
abbrev pub OneCount : Type 0
OneCount = (text : List ℕ) → ExactlyOne (TakesSteps text)

-- the items of a rest that a comma follows: the rest as a bad piece, or none if it is empty
abbrev pub items_of_rest : List ℕ → List CutItem
items_of_rest [] = []
items_of_rest (b ∷ rest) = bad (b ∷ rest) ∷ []

-- A comma ends what precedes it, unless that is an open quoted string. What follows the comma is cut like a text of its own.
abbrev pub CommaContains : Type 0
CommaContains = (before after : List ℕ) (items others : List CutItem) (rest end : List ℕ) → Cut before items rest → ¬ (IsUnclosed rest)
    → Cut after others end → Cut (before ++ (comma_byte ∷ after)) (items ++ (items_of_rest rest ++ others)) end

-- the kept texts of the values, with a comma and a space between each and the next
abbrev pub joined : List MediaType → List ℕ
joined [] = []
joined (value ∷ []) = value.kept
joined (value ∷ next ∷ values) = value.kept ++ (comma_byte ∷ space_byte ∷ joined (next ∷ values))

-- the value was read: some text is read as it
abbrev pub IsRead : MediaType → Type 0
IsRead value = (text : List ℕ) × Reads text value

-- the item of a value's kept text
abbrev pub kept_item : MediaType → CutItem
kept_item value = good value.kept value

-- The joined kept texts of values that were read are cut into these values, and nothing else.
abbrev pub JoinedComesBack : Type 0
JoinedComesBack = (values : List MediaType) → AllByRecursion IsRead values → Cut (joined values) (map kept_item values) []

-- a space, a tab or a comma
abbrev pub is_separator : ℕ → Bool
is_separator b = is_space b || b == comma_byte

-- a list that HTTP allows, and its elements (RFC 7230, 7), with no whitespace between an element and the comma after it
pub data IsHttpList : List ℕ → List CutItem → Type 0 where
  -- the empty text has no element
  no_element : IsHttpList [] []
  -- a space, a tab or a comma may precede a list
  separated : (b : ℕ) (list : List ℕ) (elements : List CutItem) → IsTrue (is_separator b) → IsHttpList list elements
      → IsHttpList (b ∷ list) elements
  -- an accepted text is a list of one element
  one_element : (text : List ℕ) (value : MediaType) → Reads text value → IsHttpList text (good text value ∷ [])
  -- an accepted text, a comma and a list are a list
  more_elements : (text : List ℕ) (value : MediaType) (list : List ℕ) (elements : List CutItem) → Reads text value
      → IsHttpList list elements → IsHttpList (text ++ (comma_byte ∷ list)) (good text value ∷ elements)

-- A list that HTTP allows is cut into its elements, and nothing else.
abbrev pub HttpListIsCut : Type 0
HttpListIsCut = (text : List ℕ) (elements : List CutItem) → IsHttpList text elements → Cut text elements []

-- In a text of valid UTF-8 what is passed after a piece is one character, a scalar value, and the texts before and after it are
-- valid UTF-8.
abbrev pub PassesOneCharacter : Type 0
PassesOneCharacter = (text piece character left : List ℕ) → IsUtf8 text → IsSplit text piece character left
    → (char : ℕ) × IsScalar char × (character ≡ encode_utf8 char) × IsUtf8 piece × IsUtf8 left

-- what a run yielded is the items in order, or the first of them and then out of memory:
pub data AreGiven : List (Result OwnedMedia Bad) → List CutItem → Type 0 where
  none_left : AreGiven [] []
  -- a media type for a good piece,
  a_value : (mime : OwnedMedia) (piece : List ℕ) (given : List (Result OwnedMedia Bad)) (items : List CutItem)
      → AreGiven given items → AreGiven (Ok mime ∷ given) (good piece mime.media ∷ items)
  -- a bad piece for itself,
  a_piece : (piece : Bor (List ℕ)) (given : List (Result OwnedMedia Bad)) (items : List CutItem)
      → AreGiven given items → AreGiven (Err (Piece piece) ∷ given) (bad piece.now ∷ items)
  -- and, at the end of what was yielded, out of memory for a good piece that needs memory
  no_memory : (piece : List ℕ) (value : MediaType) (items : List CutItem)
      → NeedsMemory value → AreGiven (Err NoMemory ∷ []) (good piece value ∷ items)

-- A run yields the items of the cut of what was left.
abbrev pub RunGivesCut : Type 0
RunGivesCut = (first : Iteration) (given : List (Result OwnedMedia Bad)) → Drains IsNext first given
    → (items : List CutItem) (rest : List ℕ) → Cut first.left items rest → AreGiven given items

-- A run over a text with a comma yields the items of the text before it, the rest of that, and then the items of the text
-- after it, unless the rest is an open quoted string.
abbrev pub CommaContainsOnRuns : Type 0
CommaContainsOnRuns = (before after : List ℕ) (items others : List CutItem) (rest end : List ℕ) → Cut before items rest
    → ¬ (IsUnclosed rest) → Cut after others end → (first : Iteration) (given : List (Result OwnedMedia Bad))
    → first.left ≡ before ++ (comma_byte ∷ after) → Drains IsNext first given → AreGiven given (items ++ (items_of_rest rest ++ others))

-- A run over the joined kept texts of values that were read yields these values.
abbrev pub PrintedListComesBack : Type 0
PrintedListComesBack = (values : List MediaType) → AllByRecursion IsRead values → (first : Iteration)
    (given : List (Result OwnedMedia Bad)) → first.left ≡ joined values → Drains IsNext first given → AreGiven given (map kept_item values)
