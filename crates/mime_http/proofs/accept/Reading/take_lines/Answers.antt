-- The next line's pieces come before those of the lines that are left.
use Rattle.std.proofs.Common.{rules}
use Rattle.mime_http.proofs.Common.{drop_more, true≢false}
use Rattle.mime_http.proofs.Takes.{both_are_nothing, rest_left}
use Rattle.mime_http.proofs.accept.Reading.take_lines.Goals as goal

pub loop-line-preserved : goal.loop-line-preserved
loop-line-preserved c = search (drop_more, rest_left, rules)

pub returns-in_err-take_line-clause-nothing : goal.returns-in_err-take_line-clause-nothing
returns-in_err-take_line-clause-nothing c = search (drop_more, true≢false, both_are_nothing, rules)
