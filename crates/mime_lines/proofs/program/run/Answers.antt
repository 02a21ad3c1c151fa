-- Nothing is written before the report is complete.
use Rattle.std.proofs.Common.{rules}
use Rattle.mime_lines.proofs.program.run.Goals as goal

pub returns-in_default-clause-untouched : goal.returns-in_default-clause-untouched
returns-in_default-clause-untouched = search rules
