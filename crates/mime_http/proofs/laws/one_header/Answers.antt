use Rattle.mime_http.proofs.Lists.{one_header}
use Rattle.mime_http.proofs.laws.one_header.Goals as goal

pub returns : goal.returns
returns c = one_header
