-- Of the items of the text those are written that aren't items of what is left.
use Rattle.mime_c.proofs.Writing.{Lists}
use Rattle.mime_c.proofs.mime_list.Given as goal

abbrev pub invariant-loop-item : goal.invariant-loop-item
invariant-loop-item l = Lists l.text l.initial.out l.out l.at l.item-iterator.left
