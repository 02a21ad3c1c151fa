-- A value with a fault isn't accepted, and one without a fault needs memory.
use Rattle.mime_http.proofs.Common.{rules}
use Rattle.mime_http.proofs.HttpLaws.{not_accepted, stands_needs}
use Rattle.mime_http.proofs.value.content_type_after.Goals.{in-InvalidToken-default-eq32, in_default+in_default-same_fault}
use Rattle.mime_http.proofs.value.content_type_after.Goals as goal

pub returns-in-NoMemory-clause-explained : goal.returns-in-NoMemory-clause-explained
returns-in-NoMemory-clause-explained c = search (stands_needs, rules)

pub returns-in-Ok-clause-http : goal.returns-in-Ok-clause-http
returns-in-Ok-clause-http c = λ why.
    c.in-Ok.ensures.http (search (in-InvalidToken-default-eq32, not_accepted, in_default+in_default-same_fault, rules))

pub returns-in-Err-clause-explained : goal.returns-in-Err-clause-explained
returns-in-Err-clause-explained c = λ why.
    c.in-Err.ensures.explained (search (in-InvalidToken-default-eq32, not_accepted, in_default+in_default-same_fault, rules))
