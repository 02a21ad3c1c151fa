-- What stands before this position is content.
use Rattle.mime_http.proofs.Common.{IsContent, length, ◌-◌, ◌≤◌, slice_range}
use Rattle.mime_http.proofs.reader.string_end.Given as goal

abbrev pub invariant-loop-at : goal.invariant-loop-at
invariant-loop-at l = record {
  least : l.from ≤ l.at;
  within : l.at ≤ length l.value;
  content : IsContent (slice_range l.value l.from l.at);
}

abbrev pub decreases-loop-at : goal.decreases-loop-at
decreases-loop-at l = length l.value - l.at
