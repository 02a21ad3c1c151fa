-- What is kept of all pieces is of the lines' header.
use Rattle.std.proofs.Common.{rules}
use Rattle.mime_http.proofs.Common.{true≢false}
use Rattle.mime_http.proofs.Takes.{header_taken, pieces_of_nothing}
use Rattle.mime_http.proofs.accept.Accept.from_lines_without_bad.Goals as goal

pub returns-in_err-take_lines-clause-nothing : goal.returns-in_err-take_lines-clause-nothing
returns-in_err-take_lines-clause-nothing c = search (true≢false, pieces_of_nothing, rules)

pub returns-clause-header : goal.returns-clause-header
returns-clause-header c = search (header_taken, rules)
