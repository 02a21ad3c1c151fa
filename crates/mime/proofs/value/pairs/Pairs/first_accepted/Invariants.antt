-- What is left to look up decides the whole, and is in lowercase where case is ignored.
use Rattle.std.proofs.Common.{ℕ, List, Bool, Option}
use Rattle.mime.specs.{Inner.KeptText.AreLowPairs, Inner.Pairs.pairs_within, Items.items_of, Items.IsFirstAccepted}
use Rattle.mime.proofs.value.pairs.Pairs.first_accepted.Given as goal

abbrev pub invariant-loop-left : goal.invariant-loop-left
invariant-loop-left g l = record {
  decides : (found : Option (List ℕ × Bool))
      → IsFirstAccepted (g.K.ParamKey.Accepts l.key) (items_of (pairs_within l.left l.list)) found
      → IsFirstAccepted (g.K.ParamKey.Accepts l.key) (items_of l.fn.self) found;
  low : AreLowPairs (pairs_within l.left l.list);
}

abbrev pub decreases-loop-left : goal.decreases-loop-left
decreases-loop-left g l = l.left
