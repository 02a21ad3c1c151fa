-- No line so far tells the status.
use Rattle.mime_headers.proofs.Common.{drop, kind_within, map, ◌≡◌}
use Rattle.mime_headers.proofs.start.kind_within.Given as goal

abbrev pub invariant-loop-line : goal.invariant-loop-line
invariant-loop-line l = kind_within (map (λ line. line.now) (drop l.line-index l.lines)) ≡ kind_within (map (λ line. line.now) l.fn.lines)
