-- The words say the positions.
use Rattle.mime.proofs.ValueLemmas.Places.{plus-not_zero}
use Rattle.mime.proofs.value.Mime.of_kept.Goals as goal

pub of-requires-clause-plus : goal.of-requires-clause-plus
of-requires-clause-plus c = plus-not_zero _ _ c.requires
