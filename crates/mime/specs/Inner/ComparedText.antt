-- What a text has that is equal to a value with pairs.
use Rattle.std.specs.Prelude.{◌≡◌, ℕ, List, [], ◌∷◌, length, take, Some, IsTrue, slice_get}
use Rattle.mime.specs.Bytes.{semicolon_byte}
use Rattle.mime.specs.Inner.Scanning.{HasPositions}
use Rattle.mime.specs.Values.{MediaType, lowered, is_charset}
use Rattle.mime.specs.declared.scan.Positions.{Positions}

-- a text that goes on with a semicolon after this essence, ignoring ASCII case
abbrev pub StartsWithEssence : List ℕ → List ℕ → Type 0
StartsWithEssence essence text =
    (slice_get text (length essence) ≡ Some semicolon_byte) × (lowered essence ≡ lowered (take (length essence) text))

-- the positions of the parts of a text that begins with a value's essence and a semicolon, before a parameter
abbrev pub positions_before_list : MediaType → Positions
positions_before_list value = record { slash = value.slash; plus = value.plus; semicolon = Some (length value.essence); pair_count = 0 }

-- an accepted text with its semicolon at this position, and `count` parameters
pub record IsAcceptedAt (text : List ℕ) (semicolon count : ℕ) : Type 0 where
  pub positions : Positions
  pub has : HasPositions text positions
  pub at : positions.semicolon ≡ Some semicolon
  pub counted : positions.pair_count ≡ count

-- the only pair is a charset
abbrev pub IsLoneCharset : List (List ℕ × List ℕ) → Type 0
IsLoneCharset pairs = (name : List ℕ) × (content : List ℕ) × (pairs ≡ (name, content) ∷ []) × IsTrue (is_charset name)
