-- No capital was found exactly if lowercasing leaves the bytes so far as they are.
use Rattle.std.proofs.Common.{◌≡◌, take}
use Rattle.std.specs.Bool.{Decides}
use Rattle.std.specs.Prelude.{not}
use Rattle.mime.specs.Values.{lowered}
use Rattle.mime.proofs.value.kept.has_capital_far.Given as goal

abbrev pub invariant-loop-byte : goal.invariant-loop-byte
invariant-loop-byte l = Decides (not l.found) (lowered (take l.byte-index l.bytes) ≡ take l.byte-index l.bytes)
