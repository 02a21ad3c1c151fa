-- The law is a lemma.
use Rattle.mime_c.proofs.ValueOutcome.{boundary_is_one}
use Rattle.mime_c.proofs.laws.boundary_is_one.Goals as goal

pub returns : goal.returns
returns c = boundary_is_one
