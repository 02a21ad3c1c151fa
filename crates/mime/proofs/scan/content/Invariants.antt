-- The quoted text and the pairs so far, and then quoted text up to the byte that stops it.
use Rattle.std.proofs.Common.{false, length}
use Rattle.mime.specs.{Bytes.is_quoted_text_byte, Inner.Remaining.Remaining, Inner.Scanning.Passes}
use Rattle.mime.proofs.ScanLemmas.Passing.{Taking}
use Rattle.mime.proofs.scan.content.Given as goal

abbrev pub invariant-loop-stop : goal.invariant-loop-stop
invariant-loop-stop l = (mid : Remaining) × Taking false l.fn.reader mid × Passes is_quoted_text_byte mid l.reader l.stop

abbrev pub decreases-loop-stop : goal.decreases-loop-stop
decreases-loop-stop l = length l.reader.left
