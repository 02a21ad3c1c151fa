-- No field is in plain sight so far.
use Rattle.mime_headers.proofs.Common.{drop, seen_from, true, ◌≡◌}
use Rattle.mime_headers.proofs.field.seen_from.Given as goal

abbrev pub invariant-loop-at : goal.invariant-loop-at
invariant-loop-at l = seen_from l.may (drop l.at l.line) ≡ seen_from true l.line
