-- A field is its name, the colon and what follows it.
use Rattle.std.proofs.Common.{rules}
use Rattle.std.proofs.{lemmas.Bool.Decides.Decides-eqb, lemmas.List.take_rest, lemmas.Slice.Eq.strip_prefix_is}
use Rattle.mime_examples.proofs.Places.{divided}
use Rattle.mime_examples.proofs.multipart.value_in.Goals as goal

pub returns : goal.returns
returns c = search (divided, take_rest, strip_prefix_is, Decides-eqb, rules)
