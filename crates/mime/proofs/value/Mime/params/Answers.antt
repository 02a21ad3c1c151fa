-- The items' pairs are in lowercase, so the items are.
use Rattle.mime.proofs.ValueLemmas.Parts.{items_of-low}
use Rattle.mime.proofs.value.Mime.params.Goals as goal

pub returns-clause-low : goal.returns-clause-low
returns-clause-low c = rw c.new.ensures (items_of-low _ c.pairs.ensures.low)
