-- The two walks yield the lists of the values' pairs.
use Rattle.std.proofs.Common.{rules, ◌≡◌, ◌∙◌, refl}
use Rattle.std.proofs.{lemmas.Iterator.Consumers.YieldsList-from_first, lemmas.Iterator.Search.cmp_from_yields_List}
use Rattle.mime.specs.{Comparison.pair_cmp, Inner.Pairs.pair_seen}
use Rattle.mime.proofs.value.traits.order_pairs.Goals as goal

pub returns : goal.returns
returns c =
    let lists = cmp_from_yields_List (λ x y. y ≡ x) _ pair_cmp _ c.cmp.ensures.ran
    (YieldsList-from_first pair_seen (λ p. p) _ c.pairs-pairs.ensures.pairs)
    (λ it is. YieldsList-from_first pair_seen (λ p. p) _ (is ∙ c.pairs-others.ensures.pairs)) (λ x y. refl) in
    search rules
