-- Only zeros so far, so what is left decides.
use Rattle.mime_http.proofs.Common.{drop, read_number, ◌≡◌}
use Rattle.mime_http.proofs.weights.thousandths.Given as goal

abbrev pub invariant-loop-at : goal.invariant-loop-at
invariant-loop-at l = read_number (drop l.at l.weight) ≡ read_number l.weight
