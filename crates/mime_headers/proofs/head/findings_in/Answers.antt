-- The findings of the next lines are added.
use Rattle.mime_headers.proofs.Common.{List, ap, length-map, map, rules, sym, ℕ}
use Rattle.mime_headers.proofs.LineLists.{next_findings}
use Rattle.std.specs.Borrow.{Bor}
use Rattle.std.proofs.lemmas.List.{take_rest}
use Rattle.mime_headers.proofs.head.findings_in.Goals as goal

pub loop-line-preserved : goal.loop-line-preserved
loop-line-preserved c =
    let own = c.own_lines-own.result.now in
    let rest = take_rest c.args.lines.now c.loop-line.at in
    let are = ap (λ (lines : List (Bor (List ℕ))). map (λ line. line.now) lines) (rw rest at c.in-Some.ensures.cases.0) in (
      search rules,
      next_findings c.args.is_cut c.loop-line.alone c.loop-line.needs_sign c.args.lines.now c.loop-line.at _ _ _ _ _ _ _ _ _ _ _ _ are
          c.start_mark-start.ensures c.needs_sign_after-needs_sign.ensures (rw rest at c.own_lines-own.ensures.own _ _ are)
          (sym (length-map own (λ line. line.now))) c.mark_of.ensures (rw rest at c.is_open-is_open.ensures)
          c.is_still_alone-alone.ensures c.in_ok-push_findings.ensures c.loop-line.invariant.1,
    )
