-- The lines so far, and those that are left, are all.
use Rattle.mime_headers.proofs.Common.{without_returns, length, lines_now, lines_of, map, ◌++◌, ◌≡◌}
use Rattle.mime_headers.proofs.line.plain_lines.Given as goal

abbrev pub invariant-loop-line : goal.invariant-loop-line
invariant-loop-line l = lines_now l.lines ++ map without_returns (lines_of l.rest) ≡ map without_returns (lines_of l.initial.rest)

abbrev pub decreases-loop-line : goal.decreases-loop-line
decreases-loop-line l = length l.rest
