-- The law is a lemma.
use Rattle.mime_c.proofs.OneOutcome.{reads_to_one}
use Rattle.mime_c.proofs.laws.reads_to_one.Goals as goal

pub returns : goal.returns
returns c = reads_to_one
