-- What is the first field in the lines that are left is so in the header.
use Rattle.std.proofs.Common.{List, ℕ, Option, length}
use Rattle.mime_examples.specs.Multipart.{IsFirstField}
use Rattle.mime_examples.proofs.multipart.value_of.Given as goal

abbrev pub invariant-loop-line : goal.invariant-loop-line
invariant-loop-line l = (found : Option (List ℕ)) → IsFirstField l.name l.left found → IsFirstField l.name l.fn.part found

abbrev pub decreases-loop-line : goal.decreases-loop-line
decreases-loop-line l = length l.left
