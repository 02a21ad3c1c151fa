-- Private: where two texts differ, in bits and byte for byte.
use Rattle.std.specs.Prelude.{◌≡◌, ◌≢◌, ◌<◌, ◌≤◌, ℕ, List, if◌then◌else◌, ◌==◌}
use Rattle.std.specs.Char.{to_ascii_lowercase}
use Rattle.std.specs.List.{slice_index}

-- 1 if two bytes differ ignoring ASCII case, else 0
abbrev pub difference_bit : ℕ → ℕ → ℕ
difference_bit x y = if to_ascii_lowercase x == to_ascii_lowercase y then 0 else 1

-- the first position from one on at which they differ, byte for byte
pub record DifferAt (one other : List ℕ) (from at : ℕ) : Type 0 where
  pub least : from ≤ at
  pub equal_before : (k : ℕ) → from ≤ k → k < at → slice_index one k ≡ slice_index other k
  pub differ : slice_index one at ≢ slice_index other at
