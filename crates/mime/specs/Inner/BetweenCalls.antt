-- How a text is read piece by piece, and what a `MimeIter` keeps.
use Rattle.std.specs.Prelude.{◌≡◌, ◌≢◌, ℕ, ◌+◌, ◌≤◌, ◌<◌, Bool, false, List, [], length, Option, Some, None, MatchOption}
use Rattle.std.specs.Borrow.{Bor}
use Rattle.mime.specs.Values.{MediaType, Reads}
use Rattle.mime.specs.Inner.Scanning.{HasPositions}
use Rattle.mime.specs.Cut.{CutItem, good, bad, Cut, TakesSteps}
use Rattle.mime.specs.Runs.{Iteration, IsFirstItem, HasNoItem}
use Rattle.mime.specs.declared.scan.Positions.{Positions}

-- what was read of a text before what is left, and the steps that this took
pub record IsUnderWay (text left : List ℕ) (out_of_memory : Bool) (steps : ℕ) : Type 0 where
  pub few : steps + length left ≤ length text
  pub exact : out_of_memory ≡ false → (n : ℕ) → TakesSteps left n → TakesSteps text (steps + n)

-- what an empty piece leaves: the cut of the text, or nothing if that has no item
pub record PassesOn (text left : List ℕ) : Type 0 where
  pub carries : left ≢ [] → (items : List CutItem) (rest : List ℕ) → Cut left items rest → Cut text items rest
  pub ends : left ≡ [] → HasNoItem text

-- the text's first item is this piece: a bad one, or what it is read as if its parts have positions
abbrev pub IsFirstPiece : List ℕ → List ℕ → Option Positions → List ℕ → Type 0
IsFirstPiece text piece None left = IsFirstItem text (bad piece) left
IsFirstPiece text piece (Some positions) left =
    HasPositions piece positions × ((value : MediaType) → Reads piece value → IsFirstItem text (good piece value) left)

-- the first piece of a text was read, the character after it was skipped, and this took so many steps
pub record ReadsPiece (text piece : List ℕ) (positions : Option Positions) (left : List ℕ) (steps : ℕ) : Type 0 where
  pub empty : piece ≡ [] → PassesOn text left
  pub item : piece ≢ [] → IsFirstPiece text piece positions left
  pub less : 0 < length text → length left < length text
  pub under_way : IsUnderWay text left false steps

-- the first piece that is an item was looked for: what is found is that piece, with the positions of its parts if it is accepted
pub record IsFound (old : Iteration) (found : Option (Bor (List ℕ) × Option Positions)) (new : Iteration) : Type 0 where
  pub gives : MatchOption found (HasNoItem old.left × (new.left ≡ []))
      (λ item. IsFirstPiece old.left item.0.now item.1 new.left × (length new.left < length old.left))
  pub out_of_memory : new.out_of_memory ≡ old.out_of_memory
  pub text : new.text ≡ old.text
  pub still : old.left ≡ [] → (found ≡ None) × (new ≡ old)
  pub more : old.steps ≤ new.steps
  pub sound : IsUnderWay new.text new.left new.out_of_memory new.steps
