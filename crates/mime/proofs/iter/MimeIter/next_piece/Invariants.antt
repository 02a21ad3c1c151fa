-- Pieces without an item were read.
use Rattle.std.proofs.Common.{length}
use Rattle.mime.proofs.IterLemmas.{IsSound, IsLooking, seen}
use Rattle.mime.proofs.iter.MimeIter.next_piece.Given as goal

abbrev pub invariant-loop-self : goal.invariant-loop-self
invariant-loop-self l = IsLooking l.fn.self (seen l.self-inside) × IsSound (seen l.self-inside)

abbrev pub decreases-loop-self : goal.decreases-loop-self
decreases-loop-self l = length l.self-inside.left.now
