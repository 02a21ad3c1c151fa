-- Texts are equal block by block, up to one that differs; the last block may overlap the one before.
use Rattle.std.proofs.Common.{◌≡◌, ◌-◌, ◌+◌, length, sym, ◌∙◌, arith, refl, rules}
use Rattle.std.proofs.lemmas.List.{take_all}
use Rattle.mime_search.specs.IgnoringCase.{lowered}
use Rattle.mime_search.proofs.{IgnoringCase.length-lowered, IgnoringCase.shorter, IgnoringCase.equal_onward, IgnoringCase.difference_onward}
use Rattle.mime_search.proofs.ignoring_case.first_difference_ignoring_case.Goals as goal

pub returns-in-Some-clause-some : goal.returns-in-Some-clause-some
returns-in-Some-clause-some c =
    difference_onward c.args.a.now c.args.b.now c.loop-from.from c.loop-from.invariant.same c.in-Some.at c.in-Some.ensures.some

pub loop-from-preserved : goal.loop-from-preserved
loop-from-preserved c = search (equal_onward, rules)

pub returns-in-Some-difference_in_block-clause-some : goal.returns-in-Some-difference_in_block-clause-some
returns-in-Some-difference_in_block-clause-some c =
    let last = c.min-last.result - 16 in
    let prefix =
    shorter (lowered c.args.a.now) (lowered c.args.b.now) last c.loop-from.from c.loop-from-test.false c.loop-from.invariant.same in
    difference_onward c.args.a.now c.args.b.now last prefix c.in-Some-difference_in_block.at c.in-Some-difference_in_block.ensures.some

pub returns-in-None-difference_in_block-clause-none : goal.returns-in-None-difference_in_block-clause-none
returns-in-None-difference_in_block-clause-none c = λ _ long.
    let a = c.args.a.now in
    let b = c.args.b.now in
    let last = c.min-last.result - 16 in
    let prefix = shorter (lowered a) (lowered b) last c.loop-from.from c.loop-from-test.false c.loop-from.invariant.same in
    let all = equal_onward a b last prefix 16 (c.in-None-difference_in_block.ensures.none refl) in
    let end : c.min-last.result ≡ length a = omega (arith, c.min-last.ensures, long) in
    sym (take_all (last + 16) (lowered a) (omega (arith, end, length-lowered a))) ∙ all
    ∙ take_all (last + 16) (lowered b) (omega (arith, end, long, length-lowered b))
