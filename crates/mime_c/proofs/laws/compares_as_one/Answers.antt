-- The law is a lemma.
use Rattle.mime_c.proofs.OneOutcome.{compares_as_one}
use Rattle.mime_c.proofs.laws.compares_as_one.Goals as goal

pub returns : goal.returns
returns c = compares_as_one
