-- No line so far ends the head or the block.
use Rattle.mime_headers.proofs.Common.{Bool, List, drop, is_end, is_some, is_start, map, mark_before, option_map, position_or_len, ℕ, ◌+◌}
use Rattle.mime_headers.proofs.Common.{◌||◌, ◌≡◌}
use Rattle.mime_headers.proofs.head.count_before_end.Given as goal

abbrev pub invariant-loop-at : goal.invariant-loop-at
invariant-loop-at l =
    let ends : List ℕ → Bool = λ it. is_end (option_map (λ mark. mark.now) l.start) it || is_some (mark_before is_start l.needs_sign it) in
    l.at + position_or_len ends (map (λ line. line.now) (drop l.at l.lines)) ≡ position_or_len ends (map (λ line. line.now) l.lines)
