-- The end of the run from here on stays the same.
use Rattle.mime_http.proofs.Common.{is_space, length, ◌-◌, ◌≡◌, ◌≤◌}
use Rattle.mime_http.proofs.ReadAt.{run_end}
use Rattle.mime_http.proofs.list.spaces_end_far.Given as goal

abbrev pub invariant-loop-at : goal.invariant-loop-at
invariant-loop-at l = record { within : l.at ≤ length l.value; end : run_end is_space l.value l.at ≡ run_end is_space l.value l.from }

abbrev pub decreases-loop-at : goal.decreases-loop-at
decreases-loop-at l = length l.value - l.at
