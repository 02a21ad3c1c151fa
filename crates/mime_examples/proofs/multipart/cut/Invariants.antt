-- No line so far is a delimiter.
use Rattle.std.proofs.Common.{◌≢◌, ◌<◌, ◌++◌, ℕ, List, take, drop}
use Rattle.mime_examples.specs.Multipart.{EndsLine, EndsDelimiter}
use Rattle.mime_examples.proofs.multipart.cut.Given as goal

abbrev pub invariant-loop-at : goal.invariant-loop-at
invariant-loop-at l =
    (at : ℕ) (after : List ℕ) → at < l.at → EndsLine (take at l.body) → EndsDelimiter after → drop at l.body ≢ l.delimiter ++ after
