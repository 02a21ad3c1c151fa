-- The pairs so far are lowercased, and the list that is left ends the bytes.
use Rattle.mime.specs.Inner.KeptText.{with_pairs_lowered}
use Rattle.mime.proofs.ValueLemmas.LoweredTo.{IsLoweredTo}
use Rattle.mime.proofs.value.kept.lowercase_text.Given as goal

abbrev pub invariant-loop-others : goal.invariant-loop-others
invariant-loop-others l = IsLoweredTo l.bytes l.left l.from l.others (with_pairs_lowered l.fn.count l.fn.semicolon l.fn.text)

abbrev pub decreases-loop-others : goal.decreases-loop-others
decreases-loop-others l = l.others
