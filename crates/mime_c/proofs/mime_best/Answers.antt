-- Each answer is what it says.
use Rattle.std.proofs.Common.{◌∙◌, sym}
use Rattle.mime_c.specs.HeaderAnswers.{best_is, none_is_best}
use Rattle.mime_c.proofs.HeaderOutcome.{of_good, of_stopped}
use Rattle.mime_c.proofs.mime_best.Goals as goal

pub returns-in-Err : goal.returns-in-Err
returns-in-Err c = of_stopped c.in-Err.ensures.stopped

pub returns-in-Some : goal.returns-in-Some
returns-in-Some c = of_good c.in-Ok.ensures.read c.ranges-2.ensures (best_is _ (sym c.best.ensures.exact ∙ c.in-Some.is))

pub returns : goal.returns
returns c = of_good c.in-Ok.ensures.read c.ranges-2.ensures (none_is_best (sym c.best.ensures.exact ∙ c.in-None.is))
