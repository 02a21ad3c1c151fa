-- The ranges that are left are left to write.
use Rattle.std.proofs.Common.{map, drop}
use Rattle.mime_c.specs.{Strings.strings, HeaderAnswers.ranges_texts}
use Rattle.mime_c.proofs.Writing.{Leaves}
use Rattle.mime_c.proofs.mime_accept.Given as goal

abbrev pub invariant-loop-range : goal.invariant-loop-range
invariant-loop-range l =
    Leaves l.fn.out l.out l.at (strings (ranges_texts (map (λ range. range.media) (drop l.range-index l.range-items))))
    (strings (ranges_texts (map (λ range. range.media) l.range-items)))
