-- One text is read as one value.
use Rattle.std.proofs.Common.{ℕ, Option, None, Some, refl, sym, ap, ◌∙◌, ◌≡◌, false, true≢false}
use Rattle.std.specs.Prelude.{is_some, not}
use Rattle.std.specs.Cmp.Lexicographic.{same_text}
use Rattle.mime.specs.{Values.OwnedMedia, Inner.KeptBytes.bytes_of}
use Rattle.mime.proofs.ValueLemmas.Parts.{same_from_kept, same_from_text}
use Rattle.mime.proofs.value.traits.have_same_text.Goals as goal

-- What isn't some is none.
none : (found : Option ℕ) → is_some found ≡ false → found ≡ None
none None is = refl
none (Some at) is = absurd (true≢false is)

pub returns-clause-same : goal.returns-clause-same
returns-clause-same c = λ is. same_from_text _ _ c.args.first.now.media c.args.second.now.media c.as_str.ensures.reads
    c.as_str-2.ensures.reads (same_text _ _ (sym is ∙ c.eq.ensures))

pub returns-in-Short-text-clause-same : goal.returns-in-Short-text-clause-same
returns-in-Short-text-clause-same c = λ is.
    same_from_kept _ _ _ _ _ _ c.first.invariant.kept c.second.invariant.kept
    (ap (λ (mime : OwnedMedia). mime.media) c.first.view_is) (ap (λ (mime : OwnedMedia). mime.media) c.second.view_is)
    (ap bytes_of c.in-Short.is ∙ c.first_difference.ensures.same (none c.first_difference.result (c.is_none.ensures ∙ ap not is))
    ∙ sym (ap bytes_of c.in-Short-text.is))
