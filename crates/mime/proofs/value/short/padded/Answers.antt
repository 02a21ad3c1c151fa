-- What isn't copied stays zero.
use Rattle.mime.proofs.ValueLemmas.Zeros.{zeros-after}
use Rattle.mime.proofs.value.short.padded.Goals as goal

pub returns-clause-zeros : goal.returns-clause-zeros
returns-clause-zeros c = zeros-after c.args.text.now _ 48 c.copy.ensures
