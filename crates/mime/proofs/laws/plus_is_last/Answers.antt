-- The plus of a value is the last one.
use Rattle.mime.proofs.ValueLemmas.Parts.{plus_is_last}
use Rattle.mime.proofs.laws.plus_is_last.Goals as goal

pub returns : goal.returns
returns c = plus_is_last
