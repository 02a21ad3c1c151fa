-- A text is read as at most one value.
use Rattle.mime.proofs.GrammarLemmas.Readings.{one_reading}
use Rattle.mime.proofs.laws.one_reading.Goals as goal

pub returns : goal.returns
returns c = one_reading
