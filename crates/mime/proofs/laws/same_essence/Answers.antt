-- An essence is the same where the parts are.
use Rattle.mime.proofs.LawLemmas.Written.{same_essence}
use Rattle.mime.proofs.laws.same_essence.Goals as goal

pub returns : goal.returns
returns c = same_essence
