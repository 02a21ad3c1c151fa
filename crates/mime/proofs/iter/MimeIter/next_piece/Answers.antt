-- Each piece that is read is a step of the search.
use Rattle.std.proofs.Common.{sym, subst}
use Rattle.mime.proofs.IterLemmas.{IsLooking, looking-first}
use Rattle.mime.proofs.iter.MimeIter.next_piece.Goals as goal

pub loop-self-init : goal.loop-self-init
loop-self-init c = (subst (IsLooking _) (sym c.self.view_is) (looking-first _), c.self.invariant)
