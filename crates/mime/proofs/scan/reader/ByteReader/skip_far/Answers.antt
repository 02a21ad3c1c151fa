-- The run that is found is skipped.
use Rattle.std.proofs.Common.{rules}
use Rattle.mime.proofs.ScanLemmas.Passing.{passing_skip}
use Rattle.mime.proofs.scan.reader.ByteReader.skip_far.Goals as goal

pub returns-then-self : goal.returns-then-self
returns-then-self c = search (passing_skip, rules)
