-- Each item's row is added, and at the end no item is left.
use Rattle.std.proofs.Common.{ap, codes, rules, ◌≡◌, subst, refl, ◌∙◌, Some, Err}
use Rattle.mime.specs.{declared.iter.Bad.TheVariants.Piece, Runs.GivesItem}
use Rattle.mime_io.specs.Lines.{row}
use Rattle.mime_lines.proofs.Rows.{listing-step, listing-end}
use Rattle.mime_lines.proofs.report.push_items.Goals.{in-Ok, in-Err-Piece, in-Err-NoMemory}
use Rattle.mime_lines.proofs.report.push_items.Goals as goal

pub loop-item-preserved : goal.loop-item-preserved
loop-item-preserved c = elim c.match-item.branch [
  | in-Ok w ↦
      let gives = subst (λ it. GivesItem c.loop-item.item-iterator (Some it) c.next.new.self) w.in-Ok.is c.in-Some.ensures.steps.item in
      listing-step _ _ _ _ _ _ _ _ c.loop-item.invariant gives.1 (ap (row (codes "ok ")) w.as_str.ensures.text) (search rules)
  | in-Err-Piece w ↦
      let is : c.in-Some.item ≡ Err (Piece w.in-Err-Piece.piece) = w.in-Err-Piece.is ∙ ap Err (search rules) in
      let gives = subst (λ it. GivesItem c.loop-item.item-iterator (Some it) c.next.new.self) is c.in-Some.ensures.steps.item in
      listing-step _ _ _ _ _ _ _ _ c.loop-item.invariant gives.0 refl (search rules)
  | in-Err-NoMemory w ↦ search rules
]

pub returns : goal.returns
returns c = listing-end _ _ _ _ c.loop-item.invariant c.in-None.ensures.steps.item.0
