-- The law is a lemma.
use Rattle.mime_c.proofs.ValueOutcome.{sets_to_one}
use Rattle.mime_c.proofs.laws.sets_to_one.Goals as goal

pub returns : goal.returns
returns c = sets_to_one
