-- The separators so far.
use Rattle.std.proofs.Common.{length}
use Rattle.mime.specs.{Inner.ByteClasses.is_ascii_not_token, Inner.Scanning.Passing}
use Rattle.mime.proofs.scan.separators.Given as goal

abbrev pub invariant-loop-byte : goal.invariant-loop-byte
invariant-loop-byte l = Passing is_ascii_not_token l.initial.reader l.reader

abbrev pub decreases-loop-byte : goal.decreases-loop-byte
decreases-loop-byte l = length l.reader.left
