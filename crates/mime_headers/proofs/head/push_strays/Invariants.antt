-- What is added, and what is left to add, are all.
use Rattle.mime_headers.proofs.Common.{drop, findings_now, map, option_map, strays_of, ◌++◌, ◌≡◌}
use Rattle.mime_headers.proofs.head.push_strays.Given as goal

abbrev pub invariant-loop-line : goal.invariant-loop-line
invariant-loop-line l =
    let mark = option_map (λ mark. mark.now) l.mark in
    findings_now l.findings ++ strays_of mark (map (λ line. line.now) (drop l.line-index l.lines))
    ≡ findings_now l.fn.findings ++ strays_of mark (map (λ line. line.now) l.fn.lines)
