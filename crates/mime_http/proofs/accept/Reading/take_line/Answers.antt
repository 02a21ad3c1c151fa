-- At the line's end all pieces are taken.
use Rattle.std.proofs.Common.{rules}
use Rattle.mime_http.proofs.Takes.{past_last}
use Rattle.mime_http.proofs.accept.Reading.take_line.Goals as goal

pub returns-then-end-line-clause-taken : goal.returns-then-end-line-clause-taken
returns-then-end-line-clause-taken c = search (past_last, rules)
