-- What is written, and then what is left means, is what the whole means. The bytes behind what is written are as they were.
use Rattle.std.proofs.Common.{◌≡◌, ◌≤◌, ◌-◌, ◌++◌, false, length, take, drop}
use Rattle.mime_search.specs.Quoted.{meant_from}
use Rattle.mime_search.proofs.quoted.copy_meant.Given as goal

abbrev pub invariant-loop-at : goal.invariant-loop-at
invariant-loop-at l = record {
  least : l.end ≤ l.at;
  within : l.at ≤ length l.content;
  written : take l.end l.out ++ meant_from false (drop l.at l.content) ≡ meant_from false l.content;
  behind : drop l.end l.out ≡ drop l.end l.fn.out;
  long : length l.out ≡ length l.fn.out;
}

abbrev pub decreases-loop-at : goal.decreases-loop-at
decreases-loop-at l = length l.content - l.at
