-- The bytes so far, which are read one by one, and then by runs.
use Rattle.std.proofs.Common.{length}
use Rattle.mime.specs.{Inner.ByteClasses.token_bytes, Inner.Scanning.Passing}
use Rattle.mime.proofs.scan.token.Given as goal

abbrev pub invariant-loop-reader : goal.invariant-loop-reader
invariant-loop-reader l = Passing (token_bytes l.fn.with_plus) l.fn.reader l.reader

abbrev pub decreases-loop-reader : goal.decreases-loop-reader
decreases-loop-reader l = length l.reader.left

abbrev pub invariant-loop-stop : goal.invariant-loop-stop
invariant-loop-stop l = Passing (token_bytes l.fn.with_plus) l.fn.reader l.reader

abbrev pub decreases-loop-stop : goal.decreases-loop-stop
decreases-loop-stop l = length l.reader.left
