-- Texts are equal ignoring ASCII case exactly if no first difference is found.
use Rattle.std.proofs.Common.{rules}
use Rattle.mime_search.proofs.IgnoringCase.{none_found}
use Rattle.mime_search.proofs.ignoring_case.eq_of_one_length.Goals as goal

pub returns-then-a-ge-BLOCK : goal.returns-then-a-ge-BLOCK
returns-then-a-ge-BLOCK c = search (none_found, rules)
