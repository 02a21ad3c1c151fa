-- At the end of the parameters all their rows are added.
use Rattle.mime_lines.proofs.Rows.{param_rows-end}
use Rattle.mime_lines.proofs.report.push_params.Goals as goal

pub returns : goal.returns
returns c = param_rows-end _ _ _ _ _ c.in-None.ensures.steps.0 (cc) c.loop-name.invariant
