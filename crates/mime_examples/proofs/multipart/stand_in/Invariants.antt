-- The bytes stand nowhere so far.
use Rattle.std.proofs.Common.{◌≢◌, ◌<◌, ◌++◌, ℕ, List, drop}
use Rattle.mime_examples.proofs.multipart.stand_in.Given as goal

abbrev pub invariant-loop-at : goal.invariant-loop-at
invariant-loop-at l = (at : ℕ) → at < l.at → (after : List ℕ) → drop at l.part ≢ l.bytes ++ after
