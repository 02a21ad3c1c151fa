-- The next merit weighs something and is above the highest so far, or the highest stays.
use Rattle.mime_http.proofs.Common.{arith, length-map, map, merit, nat_tests, sym, ◌∙◌}
use Rattle.mime_http.proofs.Highest.{value_at, highest_raised, highest_stays, best_is_found, lowest}
use Rattle.mime_http.proofs.offers.best_of.Goals.{then-merit-gt0+then-gt, else-merit-gt0, else-merit-gt0-via-then-merit-gt0+else-gt}
use Rattle.mime_http.proofs.offers.best_of.Goals.{else-merit-gt0-via-else-merit-gt0}
use Rattle.mime_http.proofs.offers.best_of.Goals as goal

pub loop-at-preserved : goal.loop-at-preserved
loop-at-preserved c =
    let merit_of = merit (map (λ range. range.media) c.args.ranges.now) in
    let found = c.merit-merit.result in
    let rank = c.merit-merit.ensures
    ∙ value_at merit_of (λ offer. offer.media) c.args.offers.now c.loop-at.at _ lowest c.loop-at-test.true c.index-offers-at.is in
    let first = c.loop-at.invariant.first in
    elim c.if-merit-gt0.branch [
      | then-merit-gt0+then-gt w ↦ rw (w.most-is, w.best-is) (record {
        first = highest_raised found first rank w.if-merit-gt0.true (grind (arith, nat_tests, w.gt.ensures, w.if-gt.true));
        within = omega arith;
      })
      | else-merit-gt0 w ↦ rw (w.most-is, w.best-is) (record {
        first = highest_stays found first rank (λ heavy. elim w.else-merit-gt0.branch [
          | else-merit-gt0-via-then-merit-gt0+else-gt v ↦ grind (arith, nat_tests, v.gt.ensures, v.if-gt.false)
          | else-merit-gt0-via-else-merit-gt0 v ↦ absurd (omega (arith, heavy, v.if-merit-gt0.false))
        ]);
        within = grind (arith, c.loop-at.invariant.within);
      })
    ]

pub returns-clause-exact : goal.returns-clause-exact
returns-clause-exact c = sym (best_is_found c.loop-at.invariant.first (simp length-map (omega arith)))
