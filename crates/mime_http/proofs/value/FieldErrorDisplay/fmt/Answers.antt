-- The text of the fault follows what is written first.
use Rattle.std.proofs.Common.{rules}
use Rattle.mime.proofs.HandedOut.{calls_then}
use Rattle.mime_http.proofs.Common.{concat-append}
use Rattle.mime_http.proofs.value.FieldErrorDisplay.fmt.Goals as goal

pub returns-in_ok-write_str-in-Invalid-clause-styled : goal.returns-in_ok-write_str-in-Invalid-clause-styled
returns-in_ok-write_str-in-Invalid-clause-styled g c = search (calls_then, concat-append, rules)
