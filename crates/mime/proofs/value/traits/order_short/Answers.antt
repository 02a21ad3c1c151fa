-- The texts are the same, or the essences differ where they do.
use Rattle.std.proofs.Common.{length-take, nat_cmp, slice_index, sym, ap, ap₂, refl, ◌∙◌, rules}
use Rattle.mime.specs.{Values.OwnedMedia, Inner.KeptBytes.bytes_of}
use Rattle.mime.proofs.ValueLemmas.Parts.{same_from_kept}
use Rattle.mime.proofs.ValueLemmas.Traits.{equal-media, ordered_by_essence, differ_in_beginnings}
use Rattle.mime.proofs.value.traits.order_short.Goals as goal

pub returns-in_default : goal.returns-in_default
returns-in_default c =
    sym (equal-media c.args.first.now.media c.args.second.now.media
    (same_from_kept _ _ _ _ _ _ c.first.invariant.kept c.second.invariant.kept
    (ap (λ (mime : OwnedMedia). mime.media) c.first.view_is) (ap (λ (mime : OwnedMedia). mime.media) c.second.view_is)
    (ap bytes_of c.in-Short.is ∙ c.in_default.ensures.same refl ∙ sym (ap bytes_of c.in-Short-text.is))))

pub returns-then-at-other_essence : goal.returns-then-at-other_essence
returns-then-at-other_essence c = search (length-take, nat_cmp, slice_index, ap₂, ordered_by_essence, differ_in_beginnings, rules)
