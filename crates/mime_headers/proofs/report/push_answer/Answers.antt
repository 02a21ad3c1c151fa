-- A head other than a final response adds nothing.
use Rattle.mime_headers.proofs.Common.{[], append-nil, false, is_final, refl, rules, tests, true, vec_items, ◌≡◌}
use Rattle.mime_headers.proofs.Good.{stays}
use Rattle.mime_headers.proofs.report.push_answer.Goals as goal

pub returns-then-not-is_final : goal.returns-then-not-is_final
returns-then-not-is_final c =
    let other : is_final c.args.kind ≡ false = search (tests, rules) in
    (([], true), rw other refl, cc (append-nil (vec_items c.args.report.now.text), stays c.args.report.now.are_good))
