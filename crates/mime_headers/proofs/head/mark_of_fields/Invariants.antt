-- No line so far begins with a field, and the mark is that of the first line with one.
use Rattle.mime_headers.proofs.Common.{List, Some, [], drop, false, filter_map, if◌then◌else◌, is_field, list_any, map, mark_before}
use Rattle.mime_headers.proofs.Common.{mark_of_fields, option_map, option_or, slice_get, ℕ, ◌≡◌}
use Rattle.mime_headers.proofs.head.mark_of_fields.Given as goal

abbrev pub invariant-loop-line : goal.invariant-loop-line
invariant-loop-line l =
    let left : List (List ℕ) = map (λ line. line.now) (drop l.line-index l.lines) in
    (if list_any is_field left then Some [] else
    option_or (option_map (λ mark. mark.now) l.mark) (slice_get (filter_map (mark_before is_field false) left) 0))
    ≡ mark_of_fields (map (λ line. line.now) l.fn.lines)
