use Rattle.mime_http.proofs.ReadFaults.{one_http_fault}
use Rattle.mime_http.proofs.laws.one_http_fault.Goals as goal

pub returns : goal.returns
returns c = one_http_fault
