-- What is left ends where the whole does.
use Rattle.std.proofs.Common.{◌≡◌, ◌≤◌, ◌+◌, ◌-◌, false, length, drop}
use Rattle.mime_search.specs.Quoted.{len_from}
use Rattle.mime_search.proofs.quoted.content_end.Given as goal

abbrev pub invariant-loop-at : goal.invariant-loop-at
invariant-loop-at l = record {
  least : l.from ≤ l.at;
  within : l.at ≤ length l.text;
  left : l.at + len_from false (drop l.at l.text) ≡ l.from + len_from false (drop l.from l.text);
}

abbrev pub decreases-loop-at : goal.decreases-loop-at
decreases-loop-at l = length l.text - l.at
