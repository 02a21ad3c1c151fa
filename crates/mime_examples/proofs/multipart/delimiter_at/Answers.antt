-- What follows the delimiter's bytes is known, and doesn't make them a delimiter.
use Rattle.std.proofs.Common.{rules, ◌∙◌, sym, subst}
use Rattle.std.proofs.lemmas.Bool.{true≢false}
use Rattle.mime_examples.specs.Multipart.{EndsDelimiter}
use Rattle.mime_examples.proofs.Places.{dropped}
use Rattle.mime_examples.proofs.multipart.delimiter_at.Goals as goal

pub returns-else-ends_delimiter : goal.returns-else-ends_delimiter
returns-else-ends_delimiter c = λ after line ends is.
    let delimiter = c.args.delimiter.now in
    let same = sym (dropped delimiter after is) ∙ dropped delimiter c.in_ok-after.after.now c.in_ok-after.ensures.1 in
    let ended : EndsDelimiter c.in_ok-after.after.now = subst EndsDelimiter same ends in
    search (true≢false, rules)
