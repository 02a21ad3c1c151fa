-- A value is equal to a kept text exactly if the two values are equal.
use Rattle.mime.proofs.CompareLemmas.Parts.{kept_text_is}
use Rattle.mime.proofs.laws.kept_text_is.Goals as goal

pub returns : goal.returns
returns c = kept_text_is
