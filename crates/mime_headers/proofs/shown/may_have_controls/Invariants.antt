-- If none was found, the bytes so far are shown as they are.
use Rattle.mime_headers.proofs.Common.{drop, false, take, without_controls, ◌++◌, ◌≡◌}
use Rattle.mime_headers.proofs.shown.may_have_controls.Given as goal

abbrev pub invariant-loop-byte : goal.invariant-loop-byte
invariant-loop-byte l =
    l.found ≡ false → take l.byte-index l.bytes ++ without_controls (drop l.byte-index l.bytes) ≡ without_controls l.bytes
