-- The law is a lemma.
use Rattle.mime_c.proofs.ValueOutcome.{header_reads_to_one}
use Rattle.mime_c.proofs.laws.header_reads_to_one.Goals as goal

pub returns : goal.returns
returns c = header_reads_to_one
