-- What is left out so far is white space.
use Rattle.mime_headers.proofs.Common.{length, trim_start, ◌≡◌, ◌≤◌}
use Rattle.mime_headers.proofs.line.trim_start.Given as goal

abbrev pub invariant-loop-rest : goal.invariant-loop-rest
invariant-loop-rest l = (trim_start l.rest ≡ trim_start l.line) × (length l.rest ≤ length l.line)

abbrev pub decreases-loop-rest : goal.decreases-loop-rest
decreases-loop-rest l = length l.rest
