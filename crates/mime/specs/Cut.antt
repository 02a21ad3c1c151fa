-- How a text is cut into media types and bad pieces: each piece is the longest viable prefix of what is left, and the
-- character after it, which can't follow it, is dropped.
use Rattle.std.specs.Prelude.{◌≡◌, ◌≢◌, ℕ, ◌+◌, Bool, ◌&&◌, nat_le, IsTrue, IsFalse, List, [], ◌∷◌, ◌++◌, length, ⊤}
use Rattle.std.specs.List.{list_all}
use Rattle.mime.specs.Values.{MediaType, Reads, IsRejected}
use Rattle.mime.specs.Faults.{IsViable, IsLongestPrefix}

-- a byte from 128 to 191: in valid UTF-8 one that begins no character
abbrev pub is_following_byte : ℕ → Bool
is_following_byte b = nat_le 128 b && nat_le b 191

-- the first byte, if there is one, isn't from 128 to 191
abbrev pub BeginsCharacter : List ℕ → Type 0
BeginsCharacter [] = ⊤
BeginsCharacter (b ∷ bytes) = IsFalse (is_following_byte b)

-- one byte, and all bytes from 128 to 191 that follow it directly: in valid UTF-8 one character
abbrev pub IsCharacter : List ℕ → List ℕ → Type 0
IsCharacter [] left = ⊥
IsCharacter (b ∷ following) left = IsTrue (list_all is_following_byte following) × BeginsCharacter left

-- the text is its longest viable prefix, the character after it, and what is left
pub record IsSplit (text piece character left : List ℕ) : Type 0 where
  pub spelled : text ≡ piece ++ (character ++ left)
  pub prefix : IsLongestPrefix text (length piece)
  pub is_character : IsCharacter character left

-- an item: a piece that is read as a value, or a bad piece
pub data CutItem : Type 0 where
  good : (piece : List ℕ) (value : MediaType) → CutItem
  bad : (piece : List ℕ) → CutItem

-- the items of a piece: the value that it is read as, or itself as a bad piece, or none if it is empty
pub data ItemsOf (piece : List ℕ) : List CutItem → Type 0 where
  is_read : (value : MediaType) → Reads piece value → ItemsOf piece (good piece value ∷ [])
  is_rejected : IsRejected piece → piece ≢ [] → ItemsOf piece (bad piece ∷ [])
  is_empty : piece ≡ [] → ItemsOf piece []

-- the items of a text in order, and the rest of the text, which is unfinished or empty
pub data Cut : List ℕ → List CutItem → List ℕ → Type 0 where
  -- an accepted text is one item, and leaves no rest
  whole : (text : List ℕ) (value : MediaType) → Reads text value → Cut text (good text value ∷ []) []
  -- a viable rejected text has no item, and is the rest
  unfinished : (text : List ℕ) → IsViable text → IsRejected text → Cut text [] text
  -- any other text has the items of its longest viable prefix, and then those of what is left after the character
  goes_on : (text piece character left : List ℕ) (first items : List CutItem) (rest : List ℕ)
      → IsSplit text piece character left → ItemsOf piece first → Cut left items rest → Cut text (first ++ items) rest

-- the pieces of a text, each with the character after it, and the last piece, which no character follows
pub data Pieces : List ℕ → List (List ℕ × List ℕ) → List ℕ → Type 0 where
  last : (text : List ℕ) → IsViable text → Pieces text [] text
  next : (text piece character left : List ℕ) (pieces : List (List ℕ × List ℕ)) (end : List ℕ)
      → IsSplit text piece character left → Pieces left pieces end → Pieces text ((piece, character) ∷ pieces) end

-- the steps that reading the pieces takes: one for each byte of a piece, and one for the character after it
abbrev pub steps_of : List (List ℕ × List ℕ) → List ℕ → ℕ
steps_of [] end = length end
steps_of ((piece, character) ∷ pieces) end = length piece + 1 + steps_of pieces end

-- the number of steps that reading a text takes
pub record TakesSteps (text : List ℕ) (steps : ℕ) : Type 0 where
  pub pieces : List (List ℕ × List ℕ)
  pub end : List ℕ
  pub cut : Pieces text pieces end
  pub counted : steps ≡ steps_of pieces end
