-- The white space so far stands before the end of the delimiter's line.
use Rattle.std.proofs.Common.{◌↔◌, ◌≤◌, ℕ, List, length}
use Rattle.mime_examples.specs.Multipart.{Opens}
use Rattle.mime_examples.proofs.multipart.after_line.Given as goal

abbrev pub invariant-loop-rest : goal.invariant-loop-rest
invariant-loop-rest l = ((text : List ℕ) → Opens l.left text ↔ Opens l.fn.after text) × (length l.left ≤ length l.fn.after)

abbrev pub decreases-loop-rest : goal.decreases-loop-rest
decreases-loop-rest l = length l.left
