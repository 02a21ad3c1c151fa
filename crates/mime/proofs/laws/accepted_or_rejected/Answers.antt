-- A text is accepted or rejected.
use Rattle.mime.proofs.CutLemmas.Cuts.{accepted_or_rejected}
use Rattle.mime.proofs.laws.accepted_or_rejected.Goals as goal

pub returns : goal.returns
returns c = accepted_or_rejected
