-- The test of the order, and what it says.
use Rattle.mime.proofs.ValueLemmas.Traits.{eq_by_cmp-tells}
use Rattle.mime.proofs.laws.mime_equality.Goals as goal

pub returns : goal.returns
returns c = λ first second. eq_by_cmp-tells first.media second.media
