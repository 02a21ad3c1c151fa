-- The parameters that are left decide.
use Rattle.mime_http.proofs.Common.{demanded, find, has, not, ◌≡◌}
use Rattle.mime_http.proofs.Missing.{pairs_of}
use Rattle.mime_http.proofs.lacks.first_lacked.Given as goal

abbrev pub invariant-loop-name : goal.invariant-loop-name
invariant-loop-name l =
    find (λ pair. not (has l.offer.media pair)) (demanded (pairs_of l.name-iterator))
    ≡ find (λ pair. not (has l.offer.media pair)) (demanded l.range.media.pairs)
