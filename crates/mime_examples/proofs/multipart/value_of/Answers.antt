-- The line is a field, ends the header, or is passed over.
use Rattle.std.proofs.Common.{rules, None}
use Rattle.mime_examples.specs.Multipart.{in_line, after_line, empty_line, no_line_end}
use Rattle.mime_examples.proofs.multipart.value_of.Goals as goal

pub returns-in-Some-value_in : goal.returns-in-Some-value_in
returns-in-Some-value_in c = search (in_line, rules)

pub returns-then-is_empty_line : goal.returns-then-is_empty_line
returns-then-is_empty_line c = search (empty_line, rules)

pub loop-line-preserved : goal.loop-line-preserved
loop-line-preserved c = search (after_line, rules)

pub returns : goal.returns
returns c = c.loop-line.invariant None (no_line_end c.loop-line.left.now c.in_default.ensures)
