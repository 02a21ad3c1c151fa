-- The parameters that were closed so far.
use Rattle.std.proofs.Common.{length}
use Rattle.mime.proofs.ScanLemmas.Lists.{Turn}
use Rattle.mime.proofs.scan.parameters.Given as goal

abbrev pub invariant-loop-first : goal.invariant-loop-first
invariant-loop-first l = Turn l.fn.before l.positions l.initial.reader l.reader

abbrev pub decreases-loop-first : goal.decreases-loop-first
decreases-loop-first l = length l.reader.left
