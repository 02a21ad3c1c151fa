-- If no ESC was found, no byte so far is left out.
use Rattle.mime_headers.proofs.Common.{drop, false, take, without_escapes, ◌++◌, ◌≡◌}
use Rattle.mime_headers.proofs.line.has_escape.Given as goal

abbrev pub invariant-loop-byte : goal.invariant-loop-byte
invariant-loop-byte l =
    l.found ≡ false → take l.byte-index l.bytes ++ without_escapes (drop l.byte-index l.bytes) ≡ without_escapes l.bytes
