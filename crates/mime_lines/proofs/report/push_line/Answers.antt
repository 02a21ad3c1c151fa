-- A line that isn't UTF-8 is reported as such.
use Rattle.mime_lines.specs.{Report.ReportsLine, Report.ReportsLine.reports_no_text}
use Rattle.mime_lines.proofs.Rows.{reported}
use Rattle.mime_lines.proofs.report.push_line.Goals as goal

pub returns-in-Err : goal.returns-in-Err
returns-in-Err c = reported (ReportsLine c.args.mode c.args.line.now) _ _ _ _ (reports_no_text c.in-Err.ensures.cases.0) c.push_row.ensures
