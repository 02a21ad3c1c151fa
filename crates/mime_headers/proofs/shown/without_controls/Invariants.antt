-- What is added, and what is left to show, make up what is shown.
use Rattle.mime_headers.proofs.Common.{drop, shown_after, vec_items, without_controls, ◌++◌, ◌≡◌}
use Rattle.mime_headers.proofs.shown.without_controls.Given as goal

abbrev pub invariant-loop-at : goal.invariant-loop-at
invariant-loop-at l = vec_items l.text ++ shown_after l.passed (drop l.at l.byte-items) ≡ without_controls (vec_items l.fn.bytes)
