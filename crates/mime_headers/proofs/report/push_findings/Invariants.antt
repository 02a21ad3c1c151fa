-- The findings so far are added.
use Rattle.mime_headers.proofs.Common.{AddsFinding, FoldsTo, finding_now, map, medias, state_now, take}
use Rattle.mime_headers.proofs.report.push_findings.Given as goal

abbrev pub invariant-loop-finding : goal.invariant-loop-finding
invariant-loop-finding l = FoldsTo (AddsFinding (medias l.offers) l.many) (state_now l.fn.report)
    (map finding_now (take l.finding-index l.findings)) (state_now l.report)
