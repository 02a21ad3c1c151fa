-- How contracts see a `MimeIter`, and what one call of its `next` returns.
use Rattle.std.specs.Prelude.{◌≡◌, ℕ, ◌≤◌, Bool, true, false, List, [], ◌∷◌, length, Option, Some, None, Result, Ok, Err, codes}
use Rattle.mime.specs.Values.{MediaType, NeedsMemory, OwnedMedia}
use Rattle.mime.specs.Cut.{CutItem, good, bad, Cut, TakesSteps}
use Rattle.mime.specs.declared.iter.Bad.{Bad}
use Rattle.mime.specs.declared.iter.Bad.TheVariants.{Piece, NoMemory}

-- a `MimeIter`: the whole text, what is left of it, whether memory ran out, and the steps so far
pub record Iteration : Type 0 where
  pub text : List ℕ
  pub left : List ℕ
  pub out_of_memory : Bool
  pub steps : ℕ

-- the first item of the text's cut is this one, and the others are those of the cut of what is left
abbrev pub IsFirstItem : List ℕ → CutItem → List ℕ → Type 0
IsFirstItem text item left = (items : List CutItem) (rest : List ℕ) → Cut left items rest → Cut text (item ∷ items) rest

-- the first item of the text's cut is a media type that needs memory
abbrev pub FirstNeedsMemory : List ℕ → Type 0
FirstNeedsMemory text = (piece : List ℕ) × (value : MediaType) × (items : List CutItem) × (rest : List ℕ)
    × Cut text (good piece value ∷ items) rest × NeedsMemory value

-- the text's cut has no item
abbrev pub HasNoItem : List ℕ → Type 0
HasNoItem text = (rest : List ℕ) × Cut text [] rest

-- what a call returns: none, a media type, which is fixed if its piece is `*/*`, a bad piece, or out of memory
abbrev pub GivesItem : Iteration → Option (Result OwnedMedia Bad) → Iteration → Type 0
GivesItem old None new = HasNoItem old.left × (new.left ≡ []) × (new.out_of_memory ≡ old.out_of_memory)
GivesItem old (Some (Ok mime)) new = (piece : List ℕ) × IsFirstItem old.left (good piece mime.media) new.left
    × (piece ≡ codes "*/*" → mime.fixed ≡ true) × (new.out_of_memory ≡ old.out_of_memory)
GivesItem old (Some (Err (Piece piece))) new = IsFirstItem old.left (bad piece.now) new.left × (new.out_of_memory ≡ old.out_of_memory)
GivesItem old (Some (Err NoMemory)) new = FirstNeedsMemory old.left × (new.left ≡ []) × (new.out_of_memory ≡ true)

-- one call of `next` makes the old iterator the new one, and returns the result
pub record IsNext (old : Iteration) (result : Option (Result OwnedMedia Bad)) (new : Iteration) : Type 0 where
  -- it returns the first item of the cut of what was left, none if there is no item, or out of memory
  pub item : GivesItem old result new
  -- the text stays the same
  pub text : new.text ≡ old.text
  -- the steps are no fewer than before, even if memory ran out, and at most the bytes of the text
  pub more : old.steps ≤ new.steps
  pub few : new.steps ≤ length new.text
  -- at the end, unless memory ran out, they are exactly those of the text's cut
  pub exact : new.left ≡ [] → new.out_of_memory ≡ false → TakesSteps new.text new.steps
  -- an iterator of which nothing is left returns none, and stays as it is
  pub stays : old.left ≡ [] → (result ≡ None) × (new ≡ old)
