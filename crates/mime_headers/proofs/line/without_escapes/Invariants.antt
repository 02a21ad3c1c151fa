-- What is added, and what is left to add, make up what is plain.
use Rattle.mime_headers.proofs.Common.{drop, plain_after, vec_items, without_escapes, ◌++◌, ◌≡◌}
use Rattle.mime_headers.proofs.line.without_escapes.Given as goal

abbrev pub invariant-loop-at : goal.invariant-loop-at
invariant-loop-at l = vec_items l.plain ++ plain_after l.passed (drop l.at l.byte-items) ≡ without_escapes (vec_items l.fn.bytes)
