-- The longest viable prefix is the same in valid UTF-8.
use Rattle.mime.proofs.LawLemmas.Utf8Prefixes.{prefix_is_in_utf8}
use Rattle.mime.proofs.laws.prefix_is_in_utf8.Goals as goal

pub returns : goal.returns
returns c = prefix_is_in_utf8
