use Rattle.mime_http.proofs.Lists.{one_first_bad}
use Rattle.mime_http.proofs.laws.one_first_bad.Goals as goal

pub returns : goal.returns
returns c = one_first_bad
