-- Only a flush that succeeds passes the report on.
use Rattle.std.proofs.Common.{rules}
use Rattle.mime_io.proofs.output.write_report.Goals as goal

pub returns-clause-flushed : goal.returns-clause-flushed
returns-clause-flushed = search rules

pub returns-clause-unfailed : goal.returns-clause-unfailed
returns-clause-unfailed = search rules
