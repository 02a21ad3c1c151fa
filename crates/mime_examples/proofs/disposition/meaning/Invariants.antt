-- What is added, and what is left to add, make up the name.
use Rattle.std.proofs.Common.{◌≡◌, ◌++◌, length}
use Rattle.std.specs.Vec.{vec_items}
use Rattle.mime_examples.specs.Disposition.{unescaped_name}
use Rattle.mime_examples.proofs.disposition.meaning.Given as goal

abbrev pub invariant-loop-byte : goal.invariant-loop-byte
invariant-loop-byte l = vec_items l.meaning ++ unescaped_name l.left ≡ unescaped_name l.initial.left

abbrev pub decreases-loop-byte : goal.decreases-loop-byte
decreases-loop-byte l = length l.left
