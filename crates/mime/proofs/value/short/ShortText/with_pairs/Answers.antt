-- Lowercasing in part keeps UTF-8.
use Rattle.std.proofs.Common.{sym, subst, ◌∙◌}
use Rattle.std.specs.Str.{IsUtf8}
use Rattle.mime.proofs.{ValueLemmas.KeptText.kept-in_part, ValueLemmas.Utf8.IsUtf8-in_part, ValueLemmas.Zeros.zeros-after}
use Rattle.mime.proofs.value.short.ShortText.with_pairs.Goals as goal

pub of-requires-clause-utf8 : goal.of-requires-clause-utf8
of-requires-clause-utf8 c =
    let text = c.args.text.now in
    let parts = kept-in_part c.args.positions.pair_count c.in-Some.semicolon text in
    subst IsUtf8 (sym c.lowercase_pairs.ensures.lowered) (IsUtf8-in_part text _ parts c.utf8.text)

pub of-requires-clause-zeros : goal.of-requires-clause-zeros
of-requires-clause-zeros c =
    let same = c.copy_from_slice.ensures.after ∙ c.as_bytes.ensures.value in
    c.lowercase_pairs.ensures.rest ∙ zeros-after c.args.text.now _ 48 same
