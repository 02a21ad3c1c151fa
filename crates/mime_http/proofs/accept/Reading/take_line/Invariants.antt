-- The pieces from here on are left.
use Rattle.mime_http.proofs.Common.{cut, drop, length, ◌-◌, ◌≤◌}
use Rattle.mime_http.proofs.Takes.{AreLeft}
use Rattle.mime_http.proofs.accept.Reading.take_line.Given as goal

abbrev pub invariant-loop-from : goal.invariant-loop-from
invariant-loop-from l = record {
  within : l.from ≤ length l.line;
  left : AreLeft l.keeps_bad l.fn.self l.self (cut l.line) (cut (drop l.from l.line));
}

abbrev pub decreases-loop-from : goal.decreases-loop-from
decreases-loop-from l = length l.line - l.from
