-- A pair is at the position, and what is left ends where it did.
use Rattle.std.proofs.Common.{◌≡◌, ◌≤◌, ◌<◌, ◌+◌, ◌-◌, false, length, drop, get_or}
use Rattle.mime_search.specs.Quoted.{backslash, len_from}
use Rattle.mime_search.proofs.quoted.after_quoted_pairs.Given as goal

abbrev pub invariant-loop-last : goal.invariant-loop-last
invariant-loop-last l = record {
  least : l.from ≤ l.last;
  within : l.last < length l.text;
  pair : get_or l.text l.last 0 ≡ backslash;
  left : l.last + len_from false (drop l.last l.text) ≡ l.from + len_from false (drop l.from l.text);
}

abbrev pub decreases-loop-last : goal.decreases-loop-last
decreases-loop-last l = length l.text - l.last
