-- What adding the entries that are left adds, adding all does.
use Rattle.mime_headers.proofs.Common.{AddsLines, List, MediaType, drop, length, map, medias, vec_items, ℕ, ◌+◌, ◌∷◌}
use Rattle.mime_headers.proofs.report.push_lines.Given as goal

abbrev pub invariant-loop-line : goal.invariant-loop-line
invariant-loop-line l =
    (q : List ℕ × List MediaType) → AddsLines (map vec_items (drop l.line-index l.lines)) (vec_items l.text, medias (vec_items l.ranges)) q
    → AddsLines (map vec_items l.fn.lines) (vec_items l.fn.text, medias (vec_items l.fn.ranges)) q

abbrev pub invariant-loop-rest : goal.invariant-loop-rest
invariant-loop-rest l =
    let left = l.left ∷ map vec_items (drop (l.line-index + 1) l.lines) in
    (q : List ℕ × List MediaType) → AddsLines left (vec_items l.text, medias (vec_items l.ranges)) q
    → AddsLines (map vec_items l.fn.lines) (vec_items l.fn.text, medias (vec_items l.fn.ranges)) q

abbrev pub decreases-loop-rest : goal.decreases-loop-rest
decreases-loop-rest l = length l.left
