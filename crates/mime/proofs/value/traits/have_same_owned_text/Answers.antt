-- One text is read as one value.
use Rattle.std.proofs.Common.{sym, ap, ◌∙◌}
use Rattle.std.specs.Cmp.Lexicographic.{same_text}
use Rattle.mime.specs.{Values.OwnedMedia, Inner.KeptBytes.bytes_of}
use Rattle.mime.proofs.ValueLemmas.Parts.{same_from_kept}
use Rattle.mime.proofs.value.traits.have_same_owned_text.Goals as goal

pub returns-in-Owned-text : goal.returns-in-Owned-text
returns-in-Owned-text c = λ is.
    same_from_kept _ _ _ _ _ _ c.first.invariant.kept c.second.invariant.kept
    (ap (λ (mime : OwnedMedia). mime.media) c.first.view_is) (ap (λ (mime : OwnedMedia). mime.media) c.second.view_is)
    (ap bytes_of c.in-Owned.is ∙ sym c.as_str.ensures.value ∙ same_text _ _ (sym is ∙ c.eq.ensures)
    ∙ c.as_str-in-Owned-text.ensures.value ∙ sym (ap bytes_of c.in-Owned-text.is))
