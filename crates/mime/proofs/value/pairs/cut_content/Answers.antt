-- The byte after the content is a quote, which is ASCII.
use Rattle.std.proofs.Common.{◌∙◌, ap, false, rules}
use Rattle.mime.specs.Inner.Quoted.{content_len}
use Rattle.mime.proofs.ValueLemmas.Pairs.{len_from-le, quote_at_len}
use Rattle.mime.proofs.value.pairs.cut_content.Goals as goal

pub split_around-requires-clause-within : goal.split_around-requires-clause-within
split_around-requires-clause-within c =
    rw (c.content_len-length.ensures ∙ ap content_len (c.as_bytes.ensures.value ∙ c.text.ensures)) (len_from-le false c.args.text.now)

pub split_around-requires-clause-ascii : goal.split_around-requires-clause-ascii
split_around-requires-clause-ascii c = search (quote_at_len, rules)
