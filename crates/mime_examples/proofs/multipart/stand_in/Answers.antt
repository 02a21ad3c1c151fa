-- The bytes stand where a slice begins with them.
use Rattle.std.proofs.Common.{rules, ◌++◌, take, length, refl, arith, below_more}
use Rattle.std.proofs.lemmas.Bool.{true≢false}
use Rattle.mime_examples.proofs.Places.{dropped, begins_inside, from_place, divided}
use Rattle.mime_examples.proofs.multipart.stand_in.Goals as goal

pub returns-then-starts_with-clause-stand : goal.returns-then-starts_with-clause-stand
returns-then-starts_with-clause-stand c = λ _.
    let found = (from_place c.args.part.now c.args.bytes.now c.loop-at.at _ c.if-starts_with.ensures.value).0 refl in
    (take c.loop-at.at c.args.part.now, found.0, divided c.args.part.now c.loop-at.at (c.args.bytes.now ++ found.0) found.1)

pub loop-at-preserved : goal.loop-at-preserved
loop-at-preserved c = search (below_more, true≢false, from_place, rules)

pub returns-clause-none : goal.returns-clause-none
returns-clause-none c = λ _ some before after is.
    let inside = begins_inside c.args.part.now before c.args.bytes.now after some is in
    c.loop-at.invariant (length before) (omega (arith, inside)) after (dropped before (c.args.bytes.now ++ after) is)
