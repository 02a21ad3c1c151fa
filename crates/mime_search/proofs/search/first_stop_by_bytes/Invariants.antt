-- The run goes on from the bytes so far as it does from the start.
use Rattle.std.proofs.Common.{◌≡◌, ◌-◌, ◌≤◌, length}
use Rattle.mime_search.specs.Classes.{end_of_run}
use Rattle.mime_search.proofs.search.first_stop_by_bytes.Given as goal

abbrev pub invariant-loop-at : goal.invariant-loop-at
invariant-loop-at l = record { within : l.at ≤ length l.text; same : end_of_run l.class l.text l.at ≡ end_of_run l.class l.text l.from }

abbrev pub decreases-loop-at : goal.decreases-loop-at
decreases-loop-at l = length l.text - l.at
