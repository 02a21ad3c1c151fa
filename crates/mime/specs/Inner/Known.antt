-- Texts that are known to be media types.
use Rattle.std.specs.Prelude.{◌≡◌, ◌≢◌, ℕ, List, length}
use Rattle.mime.specs.Values.{MediaType, Reads}

-- the text is its own kept text, with the essence of `like` and `count` parameters, which is 1 or more
pub record IsKnown (like : MediaType) (text : List ℕ) (count : ℕ) : Type 0 where
  pub pairs : List (List ℕ × List ℕ)
  pub counted : length pairs ≡ count
  pub some : count ≢ 0
  pub reads : Reads text (record like { pairs = pairs; kept = text })
