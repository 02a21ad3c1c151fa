-- If a value is before a second one, and that is before a third, the first is before the third.
use Rattle.mime.proofs.ValueLemmas.Traits.{Before-transitive}
use Rattle.mime.proofs.laws.before_is_transitive.Goals as goal

pub returns : goal.returns
returns c = Before-transitive
