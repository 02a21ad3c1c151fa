-- The bytes from the end on are carriage returns.
use Rattle.mime_headers.proofs.Common.{length, suffix_len, take, ◌-◌, ◌==◌, ◌≡◌, ◌≤◌}
use Rattle.mime_headers.proofs.line.without_returns.Given as goal

abbrev pub invariant-loop-end : goal.invariant-loop-end
invariant-loop-end l = (l.end ≤ length l.line)
    × (length l.line - suffix_len (λ b. b == 13) l.line ≡ l.end - suffix_len (λ b. b == 13) (take l.end l.line))

abbrev pub decreases-loop-end : goal.decreases-loop-end
decreases-loop-end l = l.end
