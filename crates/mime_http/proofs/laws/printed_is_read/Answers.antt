use Rattle.mime_http.proofs.HttpLaws.{printed_is_read}
use Rattle.mime_http.proofs.laws.printed_is_read.Goals as goal

pub returns : goal.returns
returns c = printed_is_read
