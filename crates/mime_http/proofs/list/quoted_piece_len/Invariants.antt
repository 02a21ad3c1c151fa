-- The piece so far is outside strings, and ends where the line's first does.
use Rattle.mime_http.proofs.Common.{Outside, drop, length, piece_len, ◌+◌, ◌-◌, ◌≡◌, ◌≤◌}
use Rattle.mime_http.proofs.list.quoted_piece_len.Given as goal

abbrev pub invariant-loop-at : goal.invariant-loop-at
invariant-loop-at l = record {
  within : l.at ≤ length l.line;
  left : l.at + piece_len Outside (drop l.at l.line) ≡ piece_len Outside l.line;
}

abbrev pub decreases-loop-at : goal.decreases-loop-at
decreases-loop-at l = length l.line - l.at
