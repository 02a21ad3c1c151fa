-- What was added so far, and then what is written for the other bytes, are the whole; the run from there on is written as it is.
use Rattle.mime_http.proofs.Common.{drop, escaped, false, get_or, is_plain, length, slice_range, string_bytes, ◌++◌, ◌-◌, ◌<◌, ◌≡◌, ◌≤◌}
use Rattle.std.specs.Prelude.{IsCharBoundary}
use Rattle.mime_http.proofs.quoted.push_escaped.Given as goal

abbrev pub invariant-loop-at : goal.invariant-loop-at
invariant-loop-at l = record {
  added : string_bytes l.text ++ escaped (drop l.from l.value) ≡ string_bytes l.fn.text ++ escaped l.value;
  run : escaped (drop l.from l.value) ≡ slice_range l.value l.from l.at ++ escaped (drop l.at l.value);
  stop : l.at < length l.value → is_plain (get_or l.value l.at 0) ≡ false;
  least : l.from ≤ l.at;
  within : l.at ≤ length l.value;
  boundary : IsCharBoundary l.value l.from;
}

abbrev pub decreases-loop-at : goal.decreases-loop-at
decreases-loop-at l = length l.value - l.from
