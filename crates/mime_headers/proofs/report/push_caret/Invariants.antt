-- So many spaces are added.
use Rattle.mime_headers.proofs.Common.{replicate, vec_items, ◌++◌, ◌≡◌}
use Rattle.mime_headers.proofs.report.push_caret.Given as goal

abbrev pub invariant-loop : goal.invariant-loop
invariant-loop l = vec_items l.text ≡ vec_items l.initial.text ++ replicate l.counter 32
