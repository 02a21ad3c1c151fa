-- A text is equal to a value without parameters exactly if, lowercased, it is the kept text.
use Rattle.mime.proofs.CompareLemmas.Parts.{text_is-bare}
use Rattle.mime.proofs.laws.bare_text_is.Goals as goal

pub returns : goal.returns
returns c = text_is-bare
