-- The pieces so far are added.
use Rattle.mime_headers.proofs.Common.{flat_map, take, vec_items, ◌++◌, ◌≡◌}
use Rattle.mime_headers.proofs.report.push.Given as goal

abbrev pub invariant-loop-piece : goal.invariant-loop-piece
invariant-loop-piece l = vec_items l.text ≡ vec_items l.fn.text ++ flat_map (λ piece. piece.now) (take l.piece-index l.pieces)
