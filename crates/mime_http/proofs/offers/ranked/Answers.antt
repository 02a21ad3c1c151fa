-- The next offer is put last, or it weighs too little; sorted, they are in order.
use Rattle.mime_http.proofs.Common.{arith, length-map, map, merit, refl, ◌∙◌}
use Rattle.mime_http.proofs.Highest.{lowest, value_at}
use Rattle.mime_http.proofs.Order.{are_ranked, none_more, one_ranked}
use Rattle.mime_http.proofs.offers.ranked.Goals.{then-merit-least+in_ok-push, else-merit-least}
use Rattle.mime_http.proofs.offers.ranked.Goals as goal

pub loop-at-preserved : goal.loop-at-preserved
loop-at-preserved c =
    let ranks = merit (map (λ range. range.media) c.args.ranges.now) in
    let is = value_at ranks (λ offer. offer.media) c.args.offers.now c.loop-at.at _ lowest c.loop-at-test.true c.index-offers-at.is in
    let rank = c.merit-merit.ensures ∙ is in
    elim c.if-merit-least.branch [
      | then-merit-least+in_ok-push w ↦
          rw (w.ranked-is, w.in_ok-push.ensures.items) (one_ranked c.loop-at.invariant _ refl rank w.if-merit-least.true)
      | else-merit-least w ↦
          let light = rw rank at w.if-merit-least.false in
          rw w.ranked-is (none_more c.loop-at.invariant (λ some. absurd (omega (arith, light, some))))
    ]

pub returns : goal.returns
returns c =
    let passed = length-map c.args.offers.now (λ offer. offer.media) in
    are_ranked _ _ _ _ _ (omega (arith, c.loop-at.auto.at-end, c.loop-at-test.false, passed)) c.loop-at.invariant
    c.in_ok-sort.ensures.permutation c.in_ok-sort.ensures.sorted
