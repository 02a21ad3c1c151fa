-- The name of the first pair that is left is accepted, or the key finds what it does in the others.
use Rattle.std.proofs.Common.{◌≡◌, ◌∙◌, ◌-◌, true, sym, subst, true≢false, rules}
use Rattle.mime.specs.Inner.Pairs.{PairCut, cut_of, pairs_within}
use Rattle.mime.specs.Items.{items_of, IsFirstAccepted}
use Rattle.mime.specs.Inner.KeptText.{AreLowPairs}
use Rattle.mime.proofs.ValueLemmas.Parts.{first_value-found}
use Rattle.mime.proofs.ValueLemmas.Pairs.{cut_of-part, cut_of-name, found-next, pairs_within-first}
use Rattle.mime.proofs.value.pairs.Pairs.first_accepted.Goals as goal

pub returns-then-first : goal.returns-then-first
returns-then-first g c =
    let first = c.in-Some.ensures in
    let value = first_value-found (g.K.ParamKey.Accepts c.args.key.now) c.loop-left.left c.loop-left.list _ _ _ _ c.loop-left-test.true
    c.loop-left.invariant.low first.name first.end (first.accepted.0 c.if-first.true) (c.value_after.ensures _ _) c.eq.ensures in
    record { found = c.loop-left.invariant.decides _ value.0; low = value.1 }

pub returns-then-left-eq1-clause-found : goal.returns-then-left-eq1-clause-found
returns-then-left-eq1-clause-found g c = search (true≢false, cut_of-name, found-next, rules)

pub loop-left-preserved : goal.loop-left-preserved
loop-left-preserved g c =
    let list = c.loop-left.list in
    let first = c.in-Some.ensures in
    let rest : c.cut_value.result.rest ≡ (cut_of list).rest =
    cut_of-part (λ (p : PairCut). p.rest) list _ _ c.len.result _ c.len.ensures
    first.name first.end c.cut_value.ensures.rest in
    record {
      decides = λ found is. c.loop-left.invariant.decides found
          (found-next (g.K.ParamKey.Accepts c.args.key.now) c.loop-left.left list found c.loop-left-test.true
          (λ accepted. true≢false (sym (first.accepted.1 (subst (λ n. g.K.ParamKey.Accepts c.args.key.now n true)
          (sym (cut_of-name list _ first.name)) accepted)) ∙ c.if-first.false))
          (subst (λ back. IsFirstAccepted (g.K.ParamKey.Accepts c.args.key.now)
          (items_of (pairs_within (c.loop-left.left - 1) back)) found) rest is));
      low = subst (λ back. AreLowPairs (pairs_within (c.loop-left.left - 1) back)) (sym rest)
          (subst AreLowPairs (pairs_within-first c.loop-left.left list c.loop-left-test.true) c.loop-left.invariant.low).1;
    }
