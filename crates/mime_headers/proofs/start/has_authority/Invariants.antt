-- No colon so far is before `//` or a port.
use Rattle.mime_headers.proofs.Common.{drop, has_authority, ◌≡◌}
use Rattle.mime_headers.proofs.start.has_authority.Given as goal

abbrev pub invariant-loop-at : goal.invariant-loop-at
invariant-loop-at l = has_authority (drop l.at l.bytes) ≡ has_authority l.bytes
