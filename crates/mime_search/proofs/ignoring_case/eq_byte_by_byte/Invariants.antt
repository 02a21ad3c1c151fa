-- What the pairs of bytes so far say: none differs exactly if the bytes are equal ignoring ASCII case.
use Rattle.std.proofs.Common.{◌-◌, ◌≡◌, ◌↔◌, ◌≤◌, length, take}
use Rattle.mime_search.specs.IgnoringCase.{lowered}
use Rattle.mime_search.proofs.ignoring_case.eq_byte_by_byte.Given as goal

abbrev pub invariant-loop-at : goal.invariant-loop-at
invariant-loop-at l = record {
  within : l.at ≤ length l.a;
  so_far : (l.differs ≡ 0) ↔ (lowered (take l.at l.a) ≡ lowered (take l.at l.b));
}

abbrev pub decreases-loop-at : goal.decreases-loop-at
decreases-loop-at l = length l.a - l.at
