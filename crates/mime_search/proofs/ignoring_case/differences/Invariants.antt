-- The bits so far are those of the bytes so far.
use Rattle.std.proofs.Common.{◌-◌, ◌≡◌, ◌≤◌, take, length}
use Rattle.std.specs.Simd.Lanes.{zip2}
use Rattle.mime_search.specs.Differences.{difference_bit}
use Rattle.mime_search.proofs.ignoring_case.differences.Given as goal

abbrev pub invariant-loop-at : goal.invariant-loop-at
invariant-loop-at l = record {
  within : l.at ≤ 16;
  long : length l.found ≡ 16;
  so_far : take l.at l.found ≡ zip2 difference_bit (take l.at l.a) (take l.at l.b);
}

abbrev pub decreases-loop-at : goal.decreases-loop-at
decreases-loop-at l = 16 - l.at
