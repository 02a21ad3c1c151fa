-- An entry is a range or bad.
use Rattle.mime_headers.proofs.Common.{Err, Ok, arith, length, map-append, rules, tests, ◌<◌}
use Rattle.mime_headers.proofs.report.push_entry.Goals as goal

pub returns-in_ok-push : goal.returns-in_ok-push
returns-in_ok-push c =
    let some : 0 < length c.args.entry.now = search (rules, tests) in
    let read = rw c.in-Some.is at c.in_ok-range.ensures in
    let rows = c.in_ok-push_range.ensures in
    (λ none. absurd (omega (arith, some, none)), λ _. (Ok _, read.0, simp (rows, read.1, c.in_ok-push.ensures.items, map-append)))

pub returns-in_default : goal.returns-in_default
returns-in_default c =
    let some : 0 < length c.args.entry.now = search (rules, tests) in
    let read = rw c.in_default.is at c.in_ok-range.ensures in
    (λ none. absurd (omega (arith, some, none)), λ _. (Err read.0, read.1, simp read.2))
