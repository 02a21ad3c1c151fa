-- The rest is searched from its first block on, or the string's last block.
use Rattle.std.proofs.Common.{◌≡◌, ◌∙◌, ap, arith, rules}
use Rattle.mime_search.specs.{Classes.is_stop, Rests.first_position}
use Rattle.mime_search.proofs.Searches.{no_stop, a_stop, first_stop-position}
use Rattle.mime_search.proofs.rest.Rest.position_of.Goals as goal

pub returns-then-stops-eq0 : goal.returns-then-stops-eq0
returns-then-stops-eq0 c =
    let text = c.as_bytes-text.result.now in
    let at = first_stop-position c.of-class.result c.args.byte c.of-class.ensures text in
    let passed = no_stop (is_stop c.of-class.result) text 0 16 _ (omega (arith, c.if-text-ge-BLOCK.true)) (omega arith)
    c.stops_in_block-stops.ensures.mask c.if-stops-eq0.true in
    let is : c.position_far.result ≡ first_position c.args.byte text = omega (arith, c.position_far.ensures, passed, at 16, at 0) in
    is ∙ ap (first_position c.args.byte) (c.as_bytes-text.ensures.value ∙ c.self.view_is)

pub returns-then-text-ge-BLOCK : goal.returns-then-text-ge-BLOCK
returns-then-text-ge-BLOCK c =
    let text = c.as_bytes-text.result.now in
    omega (
      arith,
      a_stop (is_stop c.of-class.result) text 0 16 _ (omega (arith, c.if-text-ge-BLOCK.true)) (omega arith)
          c.stops_in_block-stops.ensures.mask c.if-stops-eq0.false,
      first_stop-position c.of-class.result c.args.byte c.of-class.ensures text 0,
    ) ∙ ap (first_position c.args.byte) (c.as_bytes-text.ensures.value ∙ c.self.view_is)

pub returns : goal.returns
returns c = search (first_stop-position, rules)
