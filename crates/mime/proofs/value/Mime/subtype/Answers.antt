-- The subtype lies between characters of the essence, and is in lowercase.
use Rattle.std.proofs.Common.{refl, ap, sym, ◌∙◌, take, lit<}
use Rattle.mime_search.proofs.IgnoringCase.{lowered-take}
use Rattle.mime.proofs.BytesLemmas.{boundary_after}
use Rattle.mime.proofs.ValueLemmas.KeptText.{reads-from_kept}
use Rattle.mime.proofs.ValueLemmas.Parts.{slash_in, subtype_end, read-low_essence, low_drop}
use Rattle.mime.proofs.value.Mime.subtype.Goals as goal

pub range-requires-clause-start_le_end : goal.range-requires-clause-start_le_end
range-requires-clause-start_le_end c =
    let is = c.essence_str-essence.ensures ∙ ap (λ kept. kept.media.essence) (sym c.self.view_is) in
    rw (c.unwrap_or-end.ensures, c.plus.ensures) (subtype_end _ _ _ _ (reads-from_kept _ _ c.self.invariant.kept) is refl).0

pub range-requires-clause-start_boundary : goal.range-requires-clause-start_boundary
range-requires-clause-start_boundary c = λ _.
    let is = c.essence_str-essence.ensures ∙ ap (λ kept. kept.media.essence) (sym c.self.view_is) in
    boundary_after _ _ _ c.essence_str-essence.utf8 (slash_in _ _ _ (reads-from_kept _ _ c.self.invariant.kept) is) (lit< tt)

pub range-requires-clause-end_boundary : goal.range-requires-clause-end_boundary
range-requires-clause-end_boundary c =
    let is = c.essence_str-essence.ensures ∙ ap (λ kept. kept.media.essence) (sym c.self.view_is) in
    rw (c.unwrap_or-end.ensures, c.plus.ensures) (subtype_end _ _ _ _ (reads-from_kept _ _ c.self.invariant.kept) is refl).1

pub returns-clause-low : goal.returns-clause-low
returns-clause-low c =
    let is = c.essence_str-essence.ensures ∙ ap (λ kept. kept.media.essence) (sym c.self.view_is) in
    rw (c.range.ensures.value, is)
    (lowered-take _ _ ∙ ap (take _) (low_drop _ _ (read-low_essence _ _ (reads-from_kept _ _ c.self.invariant.kept))))
