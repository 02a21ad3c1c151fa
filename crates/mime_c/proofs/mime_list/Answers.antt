-- Each item is written after those before it, and each answer is what it says.
use Rattle.std.proofs.Common.{◌≡◌, ◌∷◌, refl, ap, ◌∙◌, subst, rules, arith, Result, Some, Err}
use Rattle.mime.specs.Values.{OwnedMedia}
use Rattle.mime.specs.Runs.{Iteration, IsNext, GivesItem}
use Rattle.mime.specs.declared.iter.Bad.{Bad}
use Rattle.mime.specs.declared.iter.Bad.TheVariants.{Piece, NoMemory}
use Rattle.mime_c.specs.declared.TheConstants.{MIME_GOOD, MIME_BAD}
use Rattle.mime_c.proofs.Writing.{lists-fits, lists-next, lists-last, lists-no_memory}
use Rattle.mime_c.proofs.mime_list.Goals as goal

-- What is given is what is matched.
gives : {old new : Iteration} {item seen : Result OwnedMedia Bad} → item ≡ seen → IsNext old (Some item) new
    → GivesItem old (Some seen) new
gives {old} {new} is next = subst (λ item. GivesItem old (Some item) new) is next.item

pub put_item-at-requires : goal.put_item-at-requires
put_item-at-requires c =
    lists-fits c.loop-item.invariant (gives c.in-Ok-item.is c.in-Some.ensures.steps).1 (MIME_GOOD ∷ c.as_str.result.now) (cc)
    (omega (arith, c.if-out-text.false))

pub loop-item-preserved-in-Ok-item : goal.loop-item-preserved-in-Ok-item
loop-item-preserved-in-Ok-item c =
    lists-next c.loop-item.invariant (gives c.in-Ok-item.is c.in-Some.ensures.steps).1 (MIME_GOOD ∷ c.as_str.result.now) _ _
    (cc) c.put_item-at.ensures

pub loop-item-preserved-in-Ok-item-2 : goal.loop-item-preserved-in-Ok-item-2
loop-item-preserved-in-Ok-item-2 c =
    lists-next c.loop-item.invariant (gives c.in-Ok-item.is c.in-Some.ensures.steps).1 (MIME_GOOD ∷ c.as_str.result.now) _ _
    (cc) c.put_item-at.ensures

pub put_item-at-requires-in-Err-Piece : goal.put_item-at-requires-in-Err-Piece
put_item-at-requires-in-Err-Piece c =
    let is : c.in-Some.item ≡ Err (Piece c.in-Err-Piece.piece) = c.in-Err-Piece.is ∙ ap Err (search rules) in
    lists-fits c.loop-item.invariant (gives is c.in-Some.ensures.steps).0 (MIME_BAD ∷ c.in-Err-Piece.piece.now) refl
    (omega (arith, c.if-out-text.false))

pub loop-item-preserved : goal.loop-item-preserved
loop-item-preserved c =
    let is : c.in-Some.item ≡ Err (Piece c.in-Err-Piece.piece) = c.in-Err-Piece.is ∙ ap Err (search rules) in
    lists-next c.loop-item.invariant (gives is c.in-Some.ensures.steps).0 (MIME_BAD ∷ c.in-Err-Piece.piece.now) _ _ refl
    c.put_item-at-in-Err-Piece.ensures

pub returns-in-Err-NoMemory : goal.returns-in-Err-NoMemory
returns-in-Err-NoMemory c =
    let is : c.in-Some.item ≡ Err NoMemory = c.in-Err-NoMemory.is ∙ ap Err (search rules) in
    lists-no_memory c.loop-item.invariant (omega (arith, c.if-out-text.false)) (search rules) (gives is c.in-Some.ensures.steps).0

pub returns : goal.returns
returns c = lists-last c.loop-item.invariant (omega (arith, c.if-out-text.false)) (search rules) c.in-None.ensures.steps.item.0
