-- The first byte is read, and then what follows it.
use Rattle.std.proofs.Common.{refl, None}
use Rattle.mime.proofs.{ScanLemmas.Verdicts.scans_at, ScanLemmas.Lists.none_walked}
use Rattle.mime.proofs.scan.scan.Goals as goal

pub returns-in-None : goal.returns-in-None
returns-in-None c = scans_at None (none_walked c.in-None.ensures) c.in-None.ensures.1 refl

pub returns-in-Some : goal.returns-in-Some
returns-in-Some c = c.scan_after.ensures _ c.in-Some.ensures
