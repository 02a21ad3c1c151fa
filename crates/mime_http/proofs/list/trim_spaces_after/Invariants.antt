-- What is left out so far is white space.
use Rattle.mime_http.proofs.Common.{length, take, trim_end, ◌≡◌, ◌≤◌}
use Rattle.mime_http.proofs.list.trim_spaces_after.Given as goal

abbrev pub invariant-loop-end : goal.invariant-loop-end
invariant-loop-end l = (l.end ≤ length l.piece) × (trim_end (take l.end l.piece) ≡ trim_end l.piece)

abbrev pub decreases-loop-end : goal.decreases-loop-end
decreases-loop-end l = l.end
