-- What is the content in the lines that are left is so in the part.
use Rattle.std.proofs.Common.{List, ℕ, Option, length}
use Rattle.mime_examples.specs.Multipart.{IsContent}
use Rattle.mime_examples.proofs.multipart.content_of.Given as goal

abbrev pub invariant-loop-first : goal.invariant-loop-first
invariant-loop-first l = (found : Option (List ℕ)) → IsContent l.left found → IsContent l.fn.part found

abbrev pub decreases-loop-first : goal.decreases-loop-first
decreases-loop-first l = length l.left
