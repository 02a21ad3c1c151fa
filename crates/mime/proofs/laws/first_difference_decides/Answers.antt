-- The first difference that reaches the value decides.
use Rattle.mime.proofs.CompareLemmas.FirstDifference.{different_values}
use Rattle.mime.proofs.laws.first_difference_decides.Goals as goal

pub returns : goal.returns
returns c = different_values
