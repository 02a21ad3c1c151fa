-- What follows a delimiter makes up the body's parts with those so far.
use Rattle.std.proofs.Common.{◌++◌, List, ℕ, Bool, length, map}
use Rattle.std.specs.Vec.{vec_items}
use Rattle.mime_examples.specs.Multipart.{AreParts, EndsDelimiter, IsBody}
use Rattle.mime_examples.proofs.multipart.parts_between.Given as goal

abbrev pub invariant-loop-part : goal.invariant-loop-part
invariant-loop-part l =
    EndsDelimiter l.left
    × ((more : List (List ℕ)) (is_whole : Bool) → AreParts l.delimiter l.left more is_whole
    → IsBody l.delimiter l.fn.body (map (λ part. part.now) (vec_items l.parts) ++ more) is_whole)

abbrev pub decreases-loop-part : goal.decreases-loop-part
decreases-loop-part l = length l.left
