-- The bits of the last block, without those before the position, are those of the bytes from there on.
use Rattle.std.proofs.Common.{◌≡◌, ◌-◌, ◌+◌, not, length, arith}
use Rattle.std.proofs.lemmas.List.Sums.{prefix_len-drop_all}
use Rattle.mime_search.specs.Classes.{is_stop}
use Rattle.mime_search.proofs.Searches.{no_stop, a_stop, last_bits}
use Rattle.mime_search.proofs.search.first_stop_at_end.Goals as goal

pub returns-then-stops-eq0 : goal.returns-then-stops-eq0
returns-then-stops-eq0 c =
    let text = c.args.text.now in
    let from = c.args.from in
    let are = last_bits c.args.class.now text from _ c.requires.block c.requires.end c.requires.within c.stops_in_block.ensures.mask in
    let all : from + (length text - from) ≡ length text = omega (arith, c.requires.within) in
    omega (
      arith,
      no_stop (is_stop c.args.class.now) text from (length text - from) _ (omega (arith, all)) (omega (arith, c.requires.end)) are
          c.if-stops-eq0.true,
      prefix_len-drop_all (λ b. not (is_stop c.args.class.now b)) text (from + (length text - from)) (omega (arith, all)),
      all,
    )

pub returns-else-stops-eq0 : goal.returns-else-stops-eq0
returns-else-stops-eq0 c =
    let text = c.args.text.now in
    let from = c.args.from in
    let are = last_bits c.args.class.now text from _ c.requires.block c.requires.end c.requires.within c.stops_in_block.ensures.mask in
    a_stop (is_stop c.args.class.now) text from (length text - from) _ (omega (arith, c.requires.within)) (omega (arith, c.requires.end))
    are c.if-stops-eq0.false
