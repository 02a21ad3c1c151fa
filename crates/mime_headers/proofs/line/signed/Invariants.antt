-- No sign is among the bytes so far.
use Rattle.mime_headers.proofs.Common.{length, signed, ◌≡◌}
use Rattle.mime_headers.proofs.line.signed.Given as goal

abbrev pub invariant-loop-more : goal.invariant-loop-more
invariant-loop-more l = signed l.rest ≡ signed l.line

abbrev pub decreases-loop-more : goal.decreases-loop-more
decreases-loop-more l = length l.rest
