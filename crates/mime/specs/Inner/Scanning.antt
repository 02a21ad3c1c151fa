-- What the reader has left, what a pass over it leaves, and what the scanner finds.
use Rattle.std.specs.Prelude.{◌≡◌, ℕ, ◌+◌, ◌-◌, ◌<◌, ◌≤◌, Bool, IsTrue, IsFalse, List, [], ◌∷◌, ◌++◌, length, take, drop, Option, Some}
use Rattle.std.specs.Prelude.{None, MatchOption, ⊤}
use Rattle.std.specs.Option.{option_to_list}
use Rattle.std.specs.List.{list_all}
use Rattle.mime.specs.Bytes.{is_token_byte, plus_byte}
use Rattle.mime.specs.Grammar.{blank, Tail, no_list, listed, SyntaxTree, text_of, IsToken, IsWellFormed}
use Rattle.mime.specs.Values.{last_plus, pairs_of_tail, IsRejected}
use Rattle.mime.specs.Faults.{IsViable, IsDeadAt, IsFault}
use Rattle.mime.specs.declared.scan.Positions.{Positions}
use Rattle.mime.specs.declared.scan.Scanned.{Scanned}
use Rattle.mime.specs.declared.scan.Scanned.TheVariants.{Accepted, Unfinished, Stopped, Followed}
use Rattle.mime.specs.Inner.Remaining.{Remaining}
use Rattle.mime.specs.Inner.Quoted.{IsOpenContent, continues}

-- the bytes of a run and the one after it, if any, were given
pub record Given (old new : Remaining) (run : List ℕ) (stop : Option ℕ) : Type 0 where
  pub bytes : old.left ≡ run ++ (option_to_list stop ++ new.left)
  pub counted : new.count ≡ old.count + (length run + length (option_to_list stop))

-- the next byte was given, or there was none
abbrev pub GivesFirst : Remaining → Remaining → Option ℕ → Type 0
GivesFirst old new first = Given old new [] first × MatchOption first (new.left ≡ []) (λ b. ⊤)

-- a run of a class was passed, perhaps not the longest, and maybe the byte after it was given
pub record Reaches (class : ℕ → Bool) (old new : Remaining) (stop : Option ℕ) : Type 0 where
  pub run : List ℕ
  pub of_class : IsTrue (list_all class run)
  pub given : Given old new run stop

-- a run of a class was passed, perhaps not the longest
abbrev pub Passing : (ℕ → Bool) → Remaining → Remaining → Type 0
Passing class old now = Reaches class old now None

-- the longest run of a class was passed; the byte after it isn't of the class
pub record Passes (class : ℕ → Bool) (old new : Remaining) (stop : Option ℕ) : Type 0 where
  pub run : List ℕ
  pub of_class : IsTrue (list_all class run)
  pub given : Given old new run stop
  pub stopped : MatchOption stop (new.left ≡ []) (λ b. IsFalse (class b))

-- a run of token bytes was passed after a plus, and the last plus is this number of bytes after that plus
pub record PassesPluses (old new : Remaining) (count : ℕ) : Type 0 where
  pub passing : Passing is_token_byte old new
  pub last : (at : ℕ) → last_plus at (plus_byte ∷ passing.run) ≡ Some (at + count)
  pub within : count ≤ length passing.run

-- the positions of a tree's parts in its text
abbrev pub semicolon_of : ℕ → Tail → Option ℕ
semicolon_of at no_list = None
semicolon_of at (listed parameters) = Some at

abbrev pub positions_of : SyntaxTree → Positions
positions_of tree = record {
  slash = length tree.top;
  plus = last_plus (length tree.top + 2) (drop 1 tree.sub);
  semicolon = semicolon_of (length tree.top + 1 + length tree.sub) tree.tail;
  pair_count = length (pairs_of_tail tree.tail);
}

-- the text is accepted, with its parts at these positions
pub record HasPositions (text : List ℕ) (positions : Positions) : Type 0 where
  pub tree : SyntaxTree
  pub well_formed : IsWellFormed tree
  pub spelled : text_of tree ≡ text
  pub same_positions : positions_of tree ≡ positions

-- the last of `count` bytes is at fault, and the text before it is rejected, or accepted with its parts at these positions
abbrev pub StopsAt : List ℕ → ℕ → ℕ → Option Positions → Type 0
StopsAt text count byte positions = (0 < count) × IsDeadAt text (count - 1) byte
    × MatchOption positions (IsRejected (take (count - 1) text)) (λ p. HasPositions (take (count - 1) text) p)

-- what the scanner finds in a text, after it was given `count` bytes
abbrev pub Judges : List ℕ → ℕ → Scanned → Type 0
Judges text count (Accepted positions) = (count ≡ length text) × HasPositions text positions
Judges text count (Unfinished fault) = (count ≡ length text) × IsFault text fault × IsViable text
Judges text count (Stopped byte) = StopsAt text count byte None
Judges text count (Followed positions byte) = StopsAt text count byte (Some positions)

-- the scanner's answer, with the bytes that it took
pub record Scans (old new : Remaining) (verdict : Scanned) : Type 0 where
  pub counted : old.count ≤ new.count
  pub judged : Judges old.left (new.count - old.count) verdict

-- the scanner's answer on what a reader gave from this first byte on
abbrev pub ScansAfter : ℕ → Remaining → Remaining → Scanned → Type 0
ScansAfter first old new verdict = (start : Remaining) → GivesFirst start old (Some first) → Scans start new verdict

-- quoted content was passed, and the byte that ends it
pub record PassesContent (old new : Remaining) (stop : Option ℕ) : Type 0 where
  pub run : List ℕ
  pub of_class : IsOpenContent run
  pub given : Given old new run stop
  pub stopped : MatchOption stop (new.left ≡ []) (λ b. IsFalse (continues run b))

-- the rest of a subtype was passed, whose first byte is at a position; its last plus
pub record PassesSubtype (at : ℕ) (old new : Remaining) (answer : Option ℕ × Option ℕ) : Type 0 where
  pub passes : Passes is_token_byte old new answer.1
  pub plus : answer.0 ≡ last_plus at passes.run

-- the tree of the text before a list: a type, a subtype and a semicolon
abbrev pub before_list : List ℕ → List ℕ → SyntaxTree
before_list top sub = record { top = top; sub = sub; tail = listed (blank []) }

-- the scanner's answer on a parameter list is its answer on each text that the list ends
abbrev pub ScansList : Positions → Remaining → Remaining → Scanned → Type 0
ScansList before old new verdict =
    (start : Remaining) (top sub : List ℕ) → IsToken top → IsToken sub → before ≡ positions_of (before_list top sub)
    → Given start old (text_of (before_list top sub)) None → Scans start new verdict
