-- The spaces so far.
use Rattle.std.proofs.Common.{length}
use Rattle.mime.specs.{Grammar.is_space, Inner.Scanning.Passing}
use Rattle.mime.proofs.scan.spaces.Given as goal

abbrev pub invariant-loop-byte : goal.invariant-loop-byte
invariant-loop-byte l = Passing is_space l.initial.reader l.reader

abbrev pub decreases-loop-byte : goal.decreases-loop-byte
decreases-loop-byte l = length l.reader.left
