use Rattle.mime.proofs.IterLemmas.{comma_contains_on_runs}
use Rattle.mime.proofs.laws.comma_contains_on_runs.Goals as goal

pub returns : goal.returns
returns c = comma_contains_on_runs
