-- The next finding is added, and so all are.
use Rattle.mime_headers.proofs.Common.{FoldsTo-push, finding_now, map_more}
use Rattle.mime_headers.proofs.report.push_findings.Goals as goal

pub loop-finding-preserved : goal.loop-finding-preserved
loop-finding-preserved c =
    let next = map_more finding_now c.args.findings.now c.loop-finding.finding-index c.finding-item.result c.loop-finding-test.true in
    rw (next, ← c.finding-item.is)
    (FoldsTo-push _ _ _ _ _ _ c.loop-finding.invariant c.in_ok-push_finding.ensures)
