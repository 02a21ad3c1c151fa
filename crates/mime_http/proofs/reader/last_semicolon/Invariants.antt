-- The answer from here on stays the same.
use Rattle.mime_http.proofs.Common.{Parts, answer_at, before_semicolon, false, is_space, length, slice_index, ◌-◌, ◌<◌, ◌≡◌, ◌≤◌}
use Rattle.mime_http.proofs.reader.last_semicolon.Given as goal

abbrev pub invariant-loop-at : goal.invariant-loop-at
invariant-loop-at l = record {
  least : l.from ≤ l.at;
  within : l.at ≤ length l.value;
  other : l.from < l.at → is_space (slice_index l.value l.at) ≡ false;
  same : (parts : Parts) → answer_at l.value (before_semicolon parts) l.from ≡ answer_at l.value (before_semicolon parts) l.at;
}

abbrev pub decreases-loop-at : goal.decreases-loop-at
decreases-loop-at l = length l.value - l.at
