-- The findings are added.
use Rattle.mime_headers.proofs.Common.{rules, state_now, tests, ◌<◌}
use Rattle.mime_headers.proofs.report.report_on.Goals as goal

pub returns : goal.returns
returns c =
    let count = c.head_count-count.ensures in
    let adds = rw (c.new-report.ensures, count) at c.in_ok-push_findings.ensures in
    let some : 0 < c.head_count-count.result = search (tests, rules) in
    record {
      some = rw count at some;
      last = state_now c.push_missing.new.report;
      adds = (state_now c.push_findings.new.report, adds, c.in_ok-push_missing.ensures);
      is_text = simp (c.in_ok-without_controls.ensures, c.in_ok-push_shown.ensures);
      is_verdict = c.verdict_of-verdict.ensures;
    }
