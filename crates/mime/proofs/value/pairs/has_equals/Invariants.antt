-- An equals sign was found exactly if there is one in the bytes so far.
use Rattle.std.proofs.Common.{◌≡◌, take}
use Rattle.mime.specs.Inner.Pairs.{has_equals}
use Rattle.mime.proofs.value.pairs.has_equals.Given as goal

abbrev pub invariant-loop-byte : goal.invariant-loop-byte
invariant-loop-byte l = l.found ≡ has_equals (take l.byte-index l.bytes)
