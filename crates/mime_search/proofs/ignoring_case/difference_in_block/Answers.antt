-- The first bit is the first difference.
use Rattle.std.proofs.Common.{arith}
use Rattle.mime_search.proofs.{Searches.first_stop-position, IgnoringCase.no_bit, IgnoringCase.first_bit}
use Rattle.mime_search.proofs.ignoring_case.difference_in_block.Goals as goal

pub returns-then-at-lt-BLOCK-clause-some : goal.returns-then-at-lt-BLOCK-clause-some
returns-then-at-lt-BLOCK-clause-some c =
    first_bit c.args.a.now c.args.b.now c.differences.result c.first_stop-at.result c.requires.room c.requires.other_room
    c.differences.ensures (omega (arith, c.first_stop-at.ensures.end, first_stop-position _ 1 c.of.ensures c.differences.result 0))
    c.if-at-lt-BLOCK.true

pub returns-else-at-lt-BLOCK-clause-none : goal.returns-else-at-lt-BLOCK-clause-none
returns-else-at-lt-BLOCK-clause-none c = λ _.
    no_bit c.args.a.now c.args.b.now c.differences.result c.first_stop-at.result c.requires.room c.requires.other_room c.differences.ensures
    (omega (arith, c.first_stop-at.ensures.end, first_stop-position _ 1 c.of.ensures c.differences.result 0)) c.if-at-lt-BLOCK.false
