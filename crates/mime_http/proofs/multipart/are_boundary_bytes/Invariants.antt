-- All bytes so far may stand in a boundary, or one may not.
use Rattle.mime_http.proofs.Common.{is_bchar, list_all, take, ◌≡◌}
use Rattle.mime_http.proofs.multipart.are_boundary_bytes.Given as goal

abbrev pub invariant-loop-byte : goal.invariant-loop-byte
invariant-loop-byte l = l.all ≡ list_all is_bchar (take l.byte-index l.bytes)
