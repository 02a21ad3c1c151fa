-- Private. What a call has written so far.
use Rattle.std.specs.Prelude.{◌≡◌, ℕ, List, ◌++◌, length}
use Rattle.mime_c.specs.Strings.{overwritten}

-- the buffer that held `old` holds these bytes at its beginning, and `at` is the position after them
pub record HasWritten (old now : List ℕ) (at : ℕ) (bytes : List ℕ) : Type 0 where
  pub there : now ≡ overwritten bytes old
  pub end : at ≡ length bytes

-- after what was written before, these bytes are written too
pub record Writes (now : List ℕ) (at : ℕ) (bytes new : List ℕ) (end : ℕ) : Type 0 where
  pub adds : (old prefix : List ℕ) → HasWritten old now at prefix → HasWritten old new end (prefix ++ bytes)
