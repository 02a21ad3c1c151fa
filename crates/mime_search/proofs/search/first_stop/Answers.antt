-- A block without a bit is passed; the lowest bit is the first stop.
use Rattle.std.proofs.Common.{◌∙◌, arith}
use Rattle.mime_search.specs.Classes.{is_stop}
use Rattle.mime_search.proofs.Searches.{no_stop, a_stop, stop_within}
use Rattle.mime_search.proofs.search.first_stop.Goals as goal

pub returns-then-stops-ne0-clause-end : goal.returns-then-stops-ne0-clause-end
returns-then-stops-ne0-clause-end c =
    a_stop (is_stop c.args.class.now) c.args.text.now c.loop-at.at 16 _ (omega (arith, c.loop-at-test.true)) (omega arith)
    c.stops_in_block-stops.ensures.mask c.if-stops-ne0.true ∙ c.loop-at.invariant.same

pub returns-then-stops-ne0-clause-within : goal.returns-then-stops-ne0-clause-within
returns-then-stops-ne0-clause-within c =
    omega (
      arith,
      c.loop-at-test.true,
      stop_within (is_stop c.args.class.now) c.args.text.now c.loop-at.at 16 _ (omega (arith, c.loop-at-test.true)) (omega arith)
          c.stops_in_block-stops.ensures.mask c.if-stops-ne0.true,
    )

pub loop-at-preserved : goal.loop-at-preserved
loop-at-preserved c = record {
  within = omega (arith, c.loop-at-test.true);
  same =
      no_stop (is_stop c.args.class.now) c.args.text.now c.loop-at.at 16 _ (omega (arith, c.loop-at-test.true)) (omega arith)
      c.stops_in_block-stops.ensures.mask c.if-stops-ne0.false ∙ c.loop-at.invariant.same;
}
