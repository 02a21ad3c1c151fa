-- The name and the value are written together where nothing between them is left out.
use Rattle.std.proofs.Common.{rules}
use Rattle.mime_http.proofs.Common.{append_assoc}
use Rattle.mime_http.proofs.ReadAt.{parts_joined}
use Rattle.mime_http.proofs.reader.put_parameter.Goals as goal

pub returns-then-spans-clause-holds : goal.returns-then-spans-clause-holds
returns-then-spans-clause-holds c = search (parts_joined, append_assoc, rules)

pub returns-clause-holds : goal.returns-clause-holds
returns-clause-holds c = search (append_assoc, rules)
