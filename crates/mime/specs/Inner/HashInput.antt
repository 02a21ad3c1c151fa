-- What a value feeds a hasher, and that equal values feed it the same, as a term: `ghost respects_eq` can't cite proofs/.
use Rattle.std.specs.Prelude.{ℕ, List, ◌++◌, ◌≡◌}
use Rattle.std.specs.List.{flat_map}
use Rattle.mime.specs.Values.{MediaType}
use Rattle.mime.specs.Comparison.{Same}
use Rattle.std.specs.Hash as fed

-- what a pair feeds: its name and its value, each as a `str`, so with the byte 255 after it
abbrev pub pair_input : List ℕ × List ℕ → fed.HashWrites
pair_input pair = fed.str pair.0 ++ fed.str pair.1

-- what a value feeds: its pairs, and then its essence as a `str`. No name is an essence, which has a slash, so the bytes say where
-- the pairs end
abbrev pub media_input : MediaType → fed.HashWrites
media_input media = flat_map pair_input media.pairs ++ fed.str media.essence

-- equal values feed a hasher the same
pub media_input-same : (x y : MediaType) → Same x y → media_input x ≡ media_input y
media_input-same x y same i = flat_map pair_input (same.1 i) ++ fed.str (same.0 i)
