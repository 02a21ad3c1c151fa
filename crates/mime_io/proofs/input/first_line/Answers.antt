-- The first line is cut off by its length; after the last line nothing is left.
use Rattle.std.proofs.Common.{◌<◌, length, rules}
use Rattle.mime_io.proofs.LineCuts.{lines_of-first, drop-beyond}
use borrow.Author.Tests.{tests}
use Rattle.mime_io.proofs.input.first_line.Goals as goal

pub returns-clause-lines : goal.returns-clause-lines
returns-clause-lines c =
    let input = c.args.input.now in
    let some : 0 < length input = search (rules, tests) in
    cc (lines_of-first input some, drop-beyond c.line_end-end.result input, c.line_end-end.ensures.line, c.min-next.ensures)
