-- An essence is its parts.
use Rattle.mime.proofs.LawLemmas.Written.{essence_is_parts}
use Rattle.mime.proofs.laws.essence_is_parts.Goals as goal

pub returns : goal.returns
returns c = essence_is_parts
