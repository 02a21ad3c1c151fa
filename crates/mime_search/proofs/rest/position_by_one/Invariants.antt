-- What is left has the first position where the whole does.
use Rattle.std.proofs.Common.{◌≡◌, ◌+◌, ◌-◌, length, drop}
use Rattle.mime_search.specs.Rests.{first_position}
use Rattle.mime_search.proofs.rest.position_by_one.Given as goal

abbrev pub invariant-loop-position : goal.invariant-loop-position
invariant-loop-position l = l.position + first_position l.byte (drop l.position l.text) ≡ first_position l.byte l.text

abbrev pub decreases-loop-position : goal.decreases-loop-position
decreases-loop-position l = length l.text - l.position
