-- No row so far has the ending.
use Rattle.std.proofs.Common.{◌≡◌, ◌≢◌, ◌<◌, ℕ, List, map}
use Rattle.std.specs.Prelude.{slice_index_or}
use Rattle.mime.specs.Values.{lowered}
use Rattle.mime_examples.proofs.files.type_of_ending.Given as goal

abbrev pub invariant-loop-known : goal.invariant-loop-known
invariant-loop-known l =
    (i : ℕ) (row : List ℕ × List ℕ) → i < l.known-index
    → slice_index_or (map (λ row. (row.0.now, row.1.now)) l.table) i row ≡ row → lowered row.0 ≢ lowered l.ending
