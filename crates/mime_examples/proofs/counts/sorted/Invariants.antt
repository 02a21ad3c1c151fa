-- The rows so far and what is left are the map's entries.
use Rattle.std.proofs.Common.{◌≡◌, ◌++◌}
use Rattle.mime_examples.proofs.counts.sorted.Given as goal

abbrev pub invariant-loop-row : goal.invariant-loop-row
invariant-loop-row l = l.rows.items ++ l.row-iterator ≡ l.fn.counts.entries
