-- A line and its report go from what is left to what is done.
use Rattle.mime_lines.proofs.Rows.{ReportsLines-step, ReportsLines-end}
use Rattle.mime_lines.proofs.report.report_of.Goals as goal

pub loop-line-preserved : goal.loop-line-preserved
loop-line-preserved c =
    ReportsLines-step c.args.mode c.args.input.now c.loop-line.rest.now _ c.in-Some.more.now _ _ c.in-Some.ensures.lines
    c.loop-line.invariant c.in_ok-push_line.ensures

pub returns : goal.returns
returns c = ReportsLines-end c.args.mode c.args.input.now c.loop-line.rest.now _ c.in_default.ensures.lines c.loop-line.invariant
