-- What isn't copied stays zero.
use Rattle.std.proofs.Common.{length, ap, sym, ◌∙◌, subst}
use Rattle.std.specs.Str.{IsUtf8}
use Rattle.std.proofs.lemmas.List.{take_at}
use Rattle.mime.proofs.ValueLemmas.Zeros.{zeros-after}
use Rattle.mime.proofs.value.short.ShortText.copied.Goals as goal

pub invariant_of-result : goal.invariant_of-result
invariant_of-result c =
    let text = c.args.text.now in
    let same = c.copy_from_slice.ensures.after ∙ c.as_bytes.ensures.value in
    (c.requires, subst IsUtf8 (sym (take_at _ _ (length text) (ap length same) ∙ same)) c.utf8.text, zeros-after text _ 40 same)
