-- Texts ignoring ASCII case: a text in lowercase, and where two texts first differ.
use Rattle.std.specs.Prelude.{◌≡◌, ◌≢◌, ◌<◌, ℕ, List, take, length}
use Rattle.std.specs.Char.{to_ascii_lowercase}
use Rattle.std.specs.List.{slice_index}
use Rattle.std.specs.Str.{str_to_ascii_lowercase}

-- the text with each ASCII capital replaced by its lowercase letter
abbrev pub lowered : List ℕ → List ℕ
lowered text = str_to_ascii_lowercase text

-- the first position at which two texts differ, ignoring ASCII case, in bytes from 0: both have a byte there
pub record FirstDifference (one other : List ℕ) (at : ℕ) : Type 0 where
  pub within : at < length one
  pub within_other : at < length other
  pub equal_before : take at (lowered one) ≡ take at (lowered other)
  pub differ : to_ascii_lowercase (slice_index one at) ≢ to_ascii_lowercase (slice_index other at)
