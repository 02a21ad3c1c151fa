-- What is left decides.
use Rattle.mime_http.proofs.Common.{drop, false, ◌≡◌}
use Rattle.mime_http.specs.Lacks.{is_quoted}
use Rattle.mime_http.proofs.lacks.has_quoted_weight.Given as goal

abbrev pub invariant-loop-at : goal.invariant-loop-at
invariant-loop-at l = is_quoted l.is_inside l.is_paired (drop l.at l.entry) ≡ is_quoted false false l.entry
