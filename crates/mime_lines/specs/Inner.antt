-- What only contracts of this crate say.
use Rattle.std.specs.Prelude.{◌≡◌, List, ℕ, ◌++◌}

-- what was added to the old bytes is a report
abbrev pub Adds : (List ℕ → Type 0) → List ℕ → List ℕ → Type 0
Adds IsReport old new = (rows : List ℕ) × IsReport rows × (new ≡ old ++ rows)
