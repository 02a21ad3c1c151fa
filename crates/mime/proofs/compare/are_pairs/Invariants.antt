-- The pairs that are left decide, and the kept ones are low.
use Rattle.std.proofs.Common.{◌≡◌, ◌↔◌, map}
use Rattle.mime.specs.Inner.KeptText.{AreLowPairs, lowered_pair}
use Rattle.mime.proofs.compare.are_pairs.Given as goal

abbrev pub invariant-loop-name : goal.invariant-loop-name
invariant-loop-name l = record {
  low : AreLowPairs l.name-iterator;
  decides : (l.name-iterator ≡ map lowered_pair l.others) ↔ (l.fn.kept ≡ map lowered_pair l.fn.pairs);
}
