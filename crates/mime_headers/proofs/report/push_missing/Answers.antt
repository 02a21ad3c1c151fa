-- The offers are weighed by a range for all.
use Rattle.mime_headers.proofs.Common.{length-map, rules, tests}
use Rattle.mime_headers.proofs.report.push_missing.Goals as goal

pub returns : goal.returns
returns c =
    let entry = rw (c.in_ok-push.ensures, c.new-ranges.ensures.items) at c.in_ok-push_entry.ensures in
    let choice = rw c.deref.ensures.value at c.in_ok-push_choice.ensures in
    (λ known. search (tests, length-map, rules), λ _. (_, entry, choice))
