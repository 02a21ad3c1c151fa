-- The positions that a value keeps, each in one word.
use Rattle.std.specs.Prelude.{◌≡◌, ℕ, zero, suc, List, length, Option, Some, None, unwrap_or}
use Rattle.mime.specs.Inner.KeptText.{IsKept, kept_semicolon}
use Rattle.mime.specs.declared.scan.Positions.{Positions}
use Rattle.mime.specs.declared.value.places.Places.{Places}

-- the position that a word says: 0 says that there is none
abbrev pub unless_zero : ℕ → Option ℕ
unless_zero zero = None
unless_zero (suc n) = Some (suc n)

-- the positions that the words say, of a text whose essence ends at this position: without pairs it ends with the text
abbrev pub positions_at : Places → ℕ → Positions
positions_at places end = record {
  slash = places.slash;
  plus = unless_zero places.plus;
  semicolon = kept_semicolon places.pair_count (Some end);
  pair_count = places.pair_count;
}

-- a text as it is kept, with the words that say the positions of its parts
pub record IsKeptAt (text : List ℕ) (places : Places) (end : ℕ) : Type 0 where
  pub kept : IsKept text (positions_at places end)
  pub ends : end ≡ unwrap_or (positions_at places end).semicolon (length text)
