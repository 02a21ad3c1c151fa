-- The first quote ends the content if no backslash precedes it.
use Rattle.std.proofs.Common.{arith, rules}
use Rattle.std.specs.Prelude.{◌==◌, not}
use Rattle.std.proofs.lemmas.List.Sums.{prefix_len-le-length}
use Rattle.mime.specs.Bytes.{quote_byte}
use Rattle.mime.proofs.ValueLemmas.Pairs.{content_len-first_quote}
use Rattle.mime.proofs.value.pairs.content_len.Goals.{then-quote-eq0-via-then-quote-eq0}
use Rattle.mime.proofs.value.pairs.content_len.Goals.{then-quote-eq0-via-else-quote-eq0+then-text-quote-ne92}
use Rattle.mime.proofs.value.pairs.content_len.Goals as goal

pub bounds-text-quote : goal.bounds-text-quote
bounds-text-quote c = omega (arith, c.requires, prefix_len-le-length (λ b. not (b == quote_byte)) c.args.text.now, c.if-quote-eq0.false)

pub returns-then-quote-eq0 : goal.returns-then-quote-eq0
returns-then-quote-eq0 c =
    search (content_len-first_quote, then-quote-eq0-via-then-quote-eq0, then-quote-eq0-via-else-quote-eq0+then-text-quote-ne92, rules)
