-- The law is the lemma.
use Rattle.mime.proofs.GrammarLemmas.Faults.{one_fault}
use Rattle.mime.proofs.laws.one_fault.Goals as goal

pub returns : goal.returns
returns c = one_fault
