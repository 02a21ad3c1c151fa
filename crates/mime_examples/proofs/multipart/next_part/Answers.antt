-- No delimiter follows the line, or there is no line.
use Rattle.std.proofs.Common.{inl, inr, refl, ⊎_elim}
use Rattle.mime_examples.proofs.multipart.next_part.Goals as goal

pub returns-in_err-text-clause-none : goal.returns-in_err-text-clause-none
returns-in_err-text-clause-none c = λ _ ends. ⊎_elim inl (λ opens. absurd (c.in_err-text.ensures.opens opens.0 opens.1)) ends

pub returns-in_err-before-clause-none : goal.returns-in_err-before-clause-none
returns-in_err-before-clause-none c = λ _ _.
    inr (record { text = c.in_ok-text.text.now; opens = c.in_ok-text.ensures.opens; alone = c.in_err-before.ensures.none refl c.requires })
