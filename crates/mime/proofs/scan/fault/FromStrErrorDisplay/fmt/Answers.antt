-- The text of the fault follows what is written first.
use Rattle.std.proofs.Common.{codes, rules}
use Rattle.std.proofs.lemmas.List.Folds.{concat-append}
use Rattle.mime.proofs.WriteLemmas.{calls_then}
use Rattle.mime.proofs.scan.fault.FromStrErrorDisplay.fmt.Goals as goal

pub returns-clause-styled : goal.returns-clause-styled
returns-clause-styled g c = search (codes, concat-append, calls_then, rules)
