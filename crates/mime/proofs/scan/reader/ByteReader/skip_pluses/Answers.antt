-- Nothing is skipped, or the bytes up to the end that is found.
use Rattle.mime.proofs.ScanLemmas.Pluses.{pluses_none}
use Rattle.mime.proofs.scan.reader.ByteReader.skip_pluses.Goals as goal

pub returns-then-self : goal.returns-then-self
returns-then-self c = pluses_none c.args.self.now

pub returns-then-not-may_be_many : goal.returns-then-not-may_be_many
returns-then-not-may_be_many c = pluses_none c.args.self.now
