-- A text in which no capital is found is in lowercase.
use Rattle.std.proofs.Common.{rules}
use Rattle.mime.proofs.StopsLemmas.{no_capital_found}
use Rattle.mime.proofs.value.kept.has_capital.Goals as goal

pub returns : goal.returns
returns c = search (no_capital_found, rules)
