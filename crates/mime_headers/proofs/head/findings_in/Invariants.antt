-- The findings so far, and those of the lines that are left, are all.
use Rattle.mime_headers.proofs.Common.{drop, findings_after, findings_in, findings_now, length, map, ◌++◌, ◌-◌, ◌≡◌, ◌≤◌}
use Rattle.mime_headers.proofs.head.findings_in.Given as goal

abbrev pub invariant-loop-line : goal.invariant-loop-line
invariant-loop-line l = (l.at ≤ length l.lines)
    × (findings_now l.findings ++ findings_after l.is_cut 0 l.alone l.needs_sign (map (λ line. line.now) (drop l.at l.lines))
    ≡ findings_in l.is_cut (map (λ line. line.now) l.lines))

abbrev pub decreases-loop-line : goal.decreases-loop-line
decreases-loop-line l = length l.lines - l.at
