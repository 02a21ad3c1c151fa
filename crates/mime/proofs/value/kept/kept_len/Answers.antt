-- With a pair, the whole text is kept.
use Rattle.mime.proofs.ValueLemmas.KeptText.{length-kept}
use Rattle.mime.proofs.value.kept.kept_len.Goals as goal

pub returns-then-positions-ne0-clause-kept : goal.returns-then-positions-ne0-clause-kept
returns-then-positions-ne0-clause-kept c =
    let at = c.args.positions in length-kept at.pair_count at.semicolon c.args.text.now c.if-positions-ne0.true
