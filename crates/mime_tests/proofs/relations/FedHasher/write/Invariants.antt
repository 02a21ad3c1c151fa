use Rattle.std.proofs.Common.{◌≡◌, ◌+◌, ◌*◌, ◌%◌, ◌^◌, take, fold}
use Rattle.mime_tests.proofs.relations.FedHasher.write.Given as goal

abbrev pub invariant-loop-byte : goal.invariant-loop-byte
invariant-loop-byte l =
    l.number ≡ fold (λ number byte. ((number * 257) % 2 ^ 128 + byte) % 2 ^ 128) l.fn.self.0 (take l.byte-index l.bytes)
