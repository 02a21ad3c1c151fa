-- What the pairs that are left feed makes the whole.
use Rattle.std.proofs.Common.{◌≡◌}
use Rattle.std.specs.List.{fold, flat_map}
use Rattle.mime.specs.Inner.HashInput.{pair_input}
use Rattle.mime.proofs.value.traits.feed_pairs.Given as goal

abbrev pub invariant-loop-name : goal.invariant-loop-name
invariant-loop-name g l =
    fold g.H.Hasher.write l.state (flat_map pair_input l.name-iterator)
    ≡ fold g.H.Hasher.write l.initial.state (flat_map pair_input l.fn.pairs)
