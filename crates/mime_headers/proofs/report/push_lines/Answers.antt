-- The next entry is added.
use Rattle.mime_headers.proofs.Common.{[], arith, comma, drop_of_length-le, length, line_end, no_line, refl, ◌≤◌, ◌∷◌}
use Rattle.mime_headers.proofs.report.push_lines.Goals as goal

pub loop-rest-preserved : goal.loop-rest-preserved
loop-rest-preserved c q is =
    let cut = rw c.in-Some.is at c.first_entry.ensures in
    c.loop-rest.invariant q (rw cut.0 (_ ∷ is.0, comma _ _ _ _ cut.1 is.1, (_, rw c.trimmed.ensures at c.in_ok-push_entry.ensures, is.2)))

pub loop-line-preserved : goal.loop-line-preserved
loop-line-preserved c q is =
    let cut = rw c.in_default.is at c.first_entry.ensures in
    c.loop-rest.invariant q (rw cut.0 (_ ∷ is.0, line_end _ _ _ cut.1 is.1, (_, rw c.trimmed.ensures at c.in_ok-push_entry.ensures, is.2)))

pub returns : goal.returns
returns c =
    let past : length c.args.lines.now ≤ c.loop-line.line-index = omega arith in
    c.loop-line.invariant _ (rw (drop_of_length-le c.args.lines.now past) ([], no_line, refl))
