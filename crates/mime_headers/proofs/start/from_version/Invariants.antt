-- No `HTTP/` is among the bytes so far.
use Rattle.mime_headers.proofs.Common.{from_version, length, ◌≡◌}
use Rattle.mime_headers.proofs.start.from_version.Given as goal

abbrev pub invariant-loop-more : goal.invariant-loop-more
invariant-loop-more l = from_version l.rest ≡ from_version l.text

abbrev pub decreases-loop-more : goal.decreases-loop-more
decreases-loop-more l = length l.rest
