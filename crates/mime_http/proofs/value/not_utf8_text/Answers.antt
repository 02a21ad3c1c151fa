-- The pieces written one by one are the whole text.
use Rattle.std.proofs.Common.{rules}
use Rattle.mime.proofs.HandedOut.{appended}
use Rattle.mime_http.proofs.value.not_utf8_text.Goals as goal

pub returns : goal.returns
returns c = search (appended, rules)
