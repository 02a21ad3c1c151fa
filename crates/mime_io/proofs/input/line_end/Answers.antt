-- The search stops at the first line feed.
use Rattle.std.proofs.Common.{◌∙◌, zero-add}
use Rattle.mime_search.proofs.Searches.{first_stop-position}
use Rattle.mime_io.proofs.input.line_end.Goals as goal

pub returns-clause-line : goal.returns-clause-line
returns-clause-line c = c.first_stop.ensures.end ∙ first_stop-position _ 10 c.of.ensures c.args.input.now 0 ∙ zero-add _
