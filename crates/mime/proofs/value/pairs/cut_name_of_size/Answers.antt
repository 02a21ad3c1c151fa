-- An equals sign follows the name, or the list ends, so the bytes may be cut there.
use Rattle.std.proofs.Common.{rules}
use Rattle.std.proofs.lemmas.List.Sums.{prefix_len-le-length}
use Rattle.mime.proofs.ValueLemmas.KnownNames.{first_equals-le, first_equals-other}
use Rattle.mime.proofs.value.pairs.cut_name_of_size.Goals as goal

pub returns-then-size-bytes-2-clause-other : goal.returns-then-size-bytes-2-clause-other
returns-then-size-bytes-2-clause-other c = search (prefix_len-le-length, rules)

pub returns-then-bytes-size-ne61-clause-other : goal.returns-then-bytes-size-ne61-clause-other
returns-then-bytes-size-ne61-clause-other c = search (first_equals-other, rules)

pub returns-then-size-bytes-clause-least : goal.returns-then-size-bytes-clause-least
returns-then-size-bytes-clause-least c = search (first_equals-le, rules)

pub returns-clause-least : goal.returns-clause-least
returns-clause-least c = search (prefix_len-le-length, rules)
