-- What is added, and what is left to add, make up what is shown.
use Rattle.mime_headers.proofs.Common.{drop, shown, vec_items, ◌++◌, ◌≡◌}
use Rattle.mime_headers.proofs.report.push_shown.Given as goal

abbrev pub invariant-loop-byte : goal.invariant-loop-byte
invariant-loop-byte l = vec_items l.text ++ shown (drop l.byte-index l.bytes) ≡ vec_items l.fn.text ++ (l.fn.label ++ shown l.fn.bytes)
