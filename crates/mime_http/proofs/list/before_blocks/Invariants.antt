-- What is left out so far is white space.
use Rattle.mime_http.proofs.Common.{take, trim_end, ◌≡◌, ◌≤◌}
use Rattle.mime_http.proofs.list.before_blocks.Given as goal

abbrev pub invariant-loop-start : goal.invariant-loop-start
invariant-loop-start l = (l.start ≤ l.end) × (trim_end (take l.start l.piece) ≡ trim_end (take l.end l.piece))

abbrev pub decreases-loop-start : goal.decreases-loop-start
decreases-loop-start l = l.start
