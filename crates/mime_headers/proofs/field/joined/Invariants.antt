-- What is added, and what is left to add, make up the value.
use Rattle.mime_headers.proofs.Common.{continued, drop, map, vec_items, ◌++◌, ◌≡◌}
use Rattle.mime_headers.proofs.field.joined.Given as goal

abbrev pub invariant-loop-line : goal.invariant-loop-line
invariant-loop-line l =
    vec_items l.value ++ continued (map (λ line. line.now) (drop l.line-index l.lines))
    ≡ l.fn.start ++ continued (map (λ line. line.now) l.fn.lines)
