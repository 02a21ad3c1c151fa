-- String after string is written.
use Rattle.std.proofs.lemmas.Grind.{common_steps}
use Rattle.std.proofs.Common.{refl, ap, ◌∙◌, arith}
use Rattle.mime_c.proofs.Writing.{given_texts, leaves-first, leaves-room, leaves-fits, leaves-next, writes-all, given-first, given-next}
use Rattle.mime_c.specs.Strings.{strings}
use Rattle.mime_c.proofs.put_parts.Goals as goal

pub loop-name-init : goal.loop-name-init
loop-name-init c =
    leaves-next (leaves-first _ _ _ (omega (arith, c.requires))) _ _ _ _
    (given-first c.args.mime.now.media _ _ (c.into_iter-name-iterator.ensures.into_iter_gives
    ∙ c.params-name-items.ensures.items) c.essence_str.ensures)
    c.put-end.ensures

pub put-end-requires-in-loop-name : goal.put-end-requires-in-loop-name
put-end-requires-in-loop-name c =
    leaves-fits c.loop-name.invariant c.as_str.result.now _ (given-next _ _ _ _ _ c.in-Some.ensures.steps c.as_str.ensures refl)
    (leaves-room _ _ _ c.requires)

pub put-end-requires-in-loop-name-2 : goal.put-end-requires-in-loop-name-2
put-end-requires-in-loop-name-2 c =
    leaves-fits
    (leaves-next c.loop-name.invariant _ _ _ _ (given-next _ _ _ _ _ c.in-Some.ensures.steps c.as_str.ensures c.as_str-in-loop-name.ensures)
    c.put-end-in-loop-name.ensures) c.as_str-in-loop-name.result.now _ refl (leaves-room _ _ _ c.requires)

pub loop-name-preserved : goal.loop-name-preserved
loop-name-preserved c = grind (arith, common_steps, leaves-next, given-next)

pub returns : goal.returns
returns c = writes-all c.loop-name.invariant (ap (λ items. strings (given_texts items)) c.in-None.ensures.steps.0)
