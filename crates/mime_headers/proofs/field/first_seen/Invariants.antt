-- No line so far has a field in plain sight.
use Rattle.mime_headers.proofs.Common.{drop, first_seen, map, ◌+◌, ◌≡◌}
use Rattle.mime_headers.proofs.field.first_seen.Given as goal

abbrev pub invariant-loop-at : goal.invariant-loop-at
invariant-loop-at l = first_seen (l.at + 1) (map (λ line. line.now) (drop l.at l.lines)) ≡ first_seen 1 (map (λ line. line.now) l.lines)
