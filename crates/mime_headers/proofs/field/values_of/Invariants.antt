-- The values so far, and those of the lines that are left, are all.
use Rattle.mime_headers.proofs.Common.{drop, map, values_of, vec_items, ◌++◌, ◌≡◌}
use Rattle.mime_headers.proofs.field.values_of.Given as goal

abbrev pub invariant-loop-at : goal.invariant-loop-at
invariant-loop-at l =
    map vec_items (vec_items l.values) ++ values_of l.name (map (λ line. line.now) (drop l.at l.lines))
    ≡ values_of l.name (map (λ line. line.now) l.lines)
