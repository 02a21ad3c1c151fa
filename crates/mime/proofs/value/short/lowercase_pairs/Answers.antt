-- A text without a capital is its kept text.
use Rattle.std.proofs.Common.{length, take, ap, sym, ◌≡◌, ◌∙◌}
use Rattle.mime.specs.Values.{lowered}
use Rattle.mime_search.proofs.IgnoringCase.{lowered-take}
use Rattle.mime.proofs.{ValueLemmas.KeptText.kept-in_part, ValueLemmas.Utf8.low-in_part}
use Rattle.mime.proofs.value.short.lowercase_pairs.Goals as goal

pub returns-else-has_capital-clause-lowered : goal.returns-else-has_capital-clause-lowered
returns-else-has_capital-clause-lowered c =
    let text = c.args.text.now in
    let n = length text in
    let same = c.requires.same in
    let low : lowered text ≡ text
    = ap lowered (sym same) ∙ lowered-take n c.args.block.now ∙ ap (take n) (c.has_capital.ensures.0 c.if-has_capital.false) ∙ same in
    same ∙ sym (low-in_part text _ (kept-in_part c.args.count c.args.semicolon text) low)
