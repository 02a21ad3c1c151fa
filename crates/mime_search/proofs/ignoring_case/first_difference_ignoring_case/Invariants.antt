-- The blocks so far are equal ignoring ASCII case.
use Rattle.std.proofs.Common.{◌≡◌, ◌+◌, ◌-◌, ◌<◌, take}
use Rattle.mime_search.specs.IgnoringCase.{lowered}
use Rattle.mime_search.proofs.ignoring_case.first_difference_ignoring_case.Given as goal

abbrev pub invariant-loop-from : goal.invariant-loop-from
invariant-loop-from l = record { within : l.from < l.last + 16; same : take l.from (lowered l.a) ≡ take l.from (lowered l.b) }

abbrev pub decreases-loop-from : goal.decreases-loop-from
decreases-loop-from l = l.last - l.from
