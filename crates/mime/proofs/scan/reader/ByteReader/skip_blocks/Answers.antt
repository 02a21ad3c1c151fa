-- The bytes before the stop that is found are skipped.
use Rattle.std.proofs.Common.{rules}
use Rattle.mime.proofs.ScanLemmas.Passing.{passing_skip}
use Rattle.mime.proofs.scan.reader.ByteReader.skip_blocks.Goals as goal

pub returns-then-self-ge-BLOCK : goal.returns-then-self-ge-BLOCK
returns-then-self-ge-BLOCK c = search (passing_skip, rules)
