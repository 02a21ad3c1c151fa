-- The suffix begins at a character of the essence, and is in lowercase.
use Rattle.std.proofs.Common.{ap, sym, ◌∙◌, arith}
use Rattle.mime.proofs.ValueLemmas.KeptText.{reads-from_kept}
use Rattle.mime.proofs.ValueLemmas.Parts.{suffix_start, read-low_essence, low_drop}
use Rattle.mime.proofs.value.Mime.suffix.Goals as goal

pub overflow_add-plus : goal.overflow_add-plus
overflow_add-plus c =
    let is = c.essence_str.ensures ∙ ap (λ kept. kept.media.essence) (sym c.self.view_is) in
    omega (
      arith,
      (suffix_start _ _ _ _ (reads-from_kept _ _ c.self.invariant.kept) is c.essence_str.utf8 (rw c.plus.ensures at c.in_ok-plus.was)).0,
    )

pub range_from-requires : goal.range_from-requires
range_from-requires c = λ _.
    let is = c.essence_str.ensures ∙ ap (λ kept. kept.media.essence) (sym c.self.view_is) in
    (suffix_start _ _ _ _ (reads-from_kept _ _ c.self.invariant.kept) is c.essence_str.utf8 (rw c.plus.ensures at c.in_ok-plus.was)).1

pub returns-clause-low : goal.returns-clause-low
returns-clause-low c =
    let is = c.essence_str.ensures ∙ ap (λ kept. kept.media.essence) (sym c.self.view_is) in
    rw (c.range_from.ensures.value, is) (low_drop _ _ (read-low_essence _ _ (reads-from_kept _ _ c.self.invariant.kept)))
