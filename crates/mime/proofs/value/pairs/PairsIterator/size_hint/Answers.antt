-- As many pairs are left as the count says.
use Rattle.std.proofs.Common.{rules}
use Rattle.mime.proofs.ValueLemmas.Parts.{length-pairs_within}
use Rattle.mime.proofs.value.pairs.PairsIterator.size_hint.Goals as goal

pub returns : goal.returns
returns c = search (length-pairs_within, rules)
