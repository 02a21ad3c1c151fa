-- The texts so far, and those of the lines that are left, are all.
use Rattle.mime_headers.proofs.Common.{drop, filter_map, lines_now, map, text_with, ◌++◌, ◌≡◌}
use Rattle.mime_headers.proofs.head.texts_with.Given as goal

abbrev pub invariant-loop-line : goal.invariant-loop-line
invariant-loop-line l =
    lines_now l.texts ++ filter_map (text_with l.fn.mark) (map (λ line. line.now) (drop l.line-index l.lines))
    ≡ filter_map (text_with l.fn.mark) (map (λ line. line.now) l.fn.lines)
