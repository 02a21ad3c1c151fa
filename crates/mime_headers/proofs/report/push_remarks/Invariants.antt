-- The rows so far are added.
use Rattle.mime_headers.proofs.Common.{field_of, flat_map, map, remark_of, take, vec_items, ◌++◌, ◌≡◌}
use Rattle.mime_headers.proofs.report.push_remarks.Given as goal

abbrev pub invariant-loop-line : goal.invariant-loop-line
invariant-loop-line l =
    vec_items l.text ≡ vec_items l.fn.text
    ++ flat_map (λ line. remark_of line (field_of line)) (map (λ it. it.now) (take l.line-index l.lines))
