-- The lowest bit of the mask, without the bits before the position, is the first stop.
use Rattle.std.proofs.Common.{arith}
use Rattle.mime_search.specs.Classes.{is_stop}
use Rattle.mime_search.proofs.Masks.{known-few, known-none, known-some}
use Rattle.mime_search.proofs.start.Start.stop_from.Goals as goal

pub returns-then-stops-eq0-clause-passed : goal.returns-then-stops-eq0-clause-passed
returns-then-stops-eq0-clause-passed c = λ class text is.
    known-none (is_stop class) text _ _ _ is.mask is.there is.few c.if-from-self.false c.if-stops-eq0.true

pub returns-clause-passed : goal.returns-clause-passed
returns-clause-passed c = λ class text is.
    omega (arith, known-some (is_stop class) text _ _ _ is.mask is.there is.few c.if-from-self.false c.if-stops-eq0.false)

pub returns-clause-within : goal.returns-clause-within
returns-clause-within c = λ class text is room.
    omega (arith, is.there, known-few (is_stop class) text _ _ _ is.mask is.there is.few c.if-from-self.false c.if-stops-eq0.false)
