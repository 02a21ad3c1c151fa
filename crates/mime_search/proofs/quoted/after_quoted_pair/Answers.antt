-- The byte that a backslash pairs closes nothing.
use Rattle.std.proofs.Common.{refl, arith}
use Rattle.mime_search.proofs.Quotes.{search_past_pair}
use Rattle.mime_search.proofs.quoted.after_quoted_pair.Goals as goal

pub returns-clause-left : goal.returns-clause-left
returns-clause-left c =
    search_past_pair c.args.text.now c.args.from _ refl (omega (arith, c.requires.within, c.if-from-text.false)) c.requires.first
