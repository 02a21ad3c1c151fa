-- The quoted text so far.
use Rattle.std.proofs.Common.{length}
use Rattle.mime.specs.{Bytes.is_quoted_text_byte, Inner.Scanning.Passing}
use Rattle.mime.proofs.scan.quoted_text.Given as goal

abbrev pub invariant-loop-byte : goal.invariant-loop-byte
invariant-loop-byte l = Passing is_quoted_text_byte l.fn.reader l.reader

abbrev pub decreases-loop-byte : goal.decreases-loop-byte
decreases-loop-byte l = length l.reader.left
