-- The heads so far, and those that are left, are all.
use Rattle.mime_headers.proofs.Common.{drop, heads_of, finding_now, length, map, ◌+◌, ◌≡◌, ◌≤◌}
use Rattle.mime_headers.proofs.report.head_count.Given as goal

abbrev pub invariant-loop-finding : goal.invariant-loop-finding
invariant-loop-finding l = (l.count ≤ l.finding-index)
    × (l.count + length (heads_of (map finding_now (drop l.finding-index l.findings))) ≡ length (heads_of (map finding_now l.findings)))
