-- The piece that was found is the item, as it is read.
use Rattle.std.proofs.Common.{[], true, ap, rules}
use Rattle.mime.specs.Runs.{Iteration}
use Rattle.mime.proofs.IterLemmas.{next-none, next-bad, next-good, next-out_of_memory}
use Rattle.mime.proofs.iter.MimeIterIterator.next.Goals as goal

pub returns-in_err-piece-clause-steps : goal.returns-in_err-piece-clause-steps
returns-in_err-piece-clause-steps c = rw c.from_residual.ensures (next-none _ _ c.in_err-piece.ensures)

pub returns-in_default-clause-steps : goal.returns-in_default-clause-steps
returns-in_default-clause-steps c = next-bad _ _ _ (rw c.in_default.is at c.in_ok-piece.ensures)

pub returns-in-Ok-clause-steps : goal.returns-in-Ok-clause-steps
returns-in-Ok-clause-steps c = next-good _ _ _ _ _ (rw c.in-Some.is at c.in_ok-piece.ensures) c.in-Ok.ensures.read (search rules)

pub returns-in-Err-clause-steps : goal.returns-in-Err-clause-steps
returns-in-Err-clause-steps c =
    next-out_of_memory _ _ _ _ _ (rw c.in-Some.is at c.in_ok-piece.ensures) (search rules)
    (ap (λ (i : Iteration). record { text = i.text; left = []; out_of_memory = true; steps = i.steps }) c.self.view_is)
