use Rattle.mime_http.proofs.HttpLaws.{one_http_reading}
use Rattle.mime_http.proofs.laws.one_http_reading.Goals as goal

pub returns : goal.returns
returns c = one_http_reading
