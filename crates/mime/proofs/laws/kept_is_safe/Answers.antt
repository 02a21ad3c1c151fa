-- A value that was read is safe in a header.
use Rattle.mime.proofs.LawLemmas.Written.{kept_is_safe}
use Rattle.mime.proofs.laws.kept_is_safe.Goals as goal

pub returns : goal.returns
returns c = kept_is_safe
