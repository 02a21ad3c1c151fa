-- The pieces of the lines from here on are left.
use Rattle.mime_http.proofs.Common.{drop, lines_or_any, map, pieces_of}
use Rattle.mime_http.proofs.Takes.{AreLeft}
use Rattle.mime_http.proofs.accept.Reading.take_lines.Given as goal

abbrev pub invariant-loop-line : goal.invariant-loop-line
invariant-loop-line l = AreLeft l.keeps_bad l.fn.self l.self (pieces_of (lines_or_any (map (λ line. line.now) l.lines)))
    (pieces_of (map (λ line. line.now) (drop l.line-index l.lines)))
