-- A text is read, or has a fault.
use Rattle.std.proofs.Common.{◌∙◌}
use Rattle.mime_lines.specs.Report.{ReportsText, ReportsText.reports_value, ReportsText.reports_fault}
use Rattle.mime_lines.specs.declared.mode.Mode.{Mode}
use Rattle.mime_lines.proofs.Rows.{reported, fault-explained}
use Rattle.mime_lines.proofs.report.push_reading.Goals as goal

pub returns-in-Ok : goal.returns-in-Ok
returns-in-Ok c =
    reported (ReportsText Mode.Parts c.args.text.now) _ _ _ _ (reports_value c.in-Ok.mime.media c.in-Ok.ensures.read) c.push_value.ensures

pub returns-in_default : goal.returns-in_default
returns-in_default c =
    let fault =
    fault-explained c.args.text.now c.in-Err.error c.in-Err.ensures.explained
    (λ want. c.in_default.not-NoMemory (c.fault.ensures ∙ want)) in
    reported (ReportsText Mode.Parts c.args.text.now) _ _ _ _ (reports_fault c.in-Err.error fault) c.writeln.ensures.bytes
