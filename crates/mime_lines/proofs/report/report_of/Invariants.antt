-- The report on what is left completes the report.
use Rattle.std.proofs.Common.{◌++◌, ℕ, List, length, string_bytes}
use Rattle.mime_io.specs.Lines.{lines_of}
use Rattle.mime_lines.specs.Report.{ReportsLines}
use Rattle.mime_lines.proofs.report.report_of.Given as goal

abbrev pub invariant-loop-line : goal.invariant-loop-line
invariant-loop-line l =
    (more : List ℕ) → ReportsLines l.fn.mode (lines_of l.rest) more
    → ReportsLines l.fn.mode (lines_of l.fn.input) (string_bytes l.report ++ more)

abbrev pub decreases-loop-line : goal.decreases-loop-line
decreases-loop-line l = length l.rest
