use Rattle.mime_http.proofs.HttpLaws.{one_printed_text}
use Rattle.mime_http.proofs.laws.one_printed_text.Goals as goal

pub returns : goal.returns
returns c = one_printed_text
