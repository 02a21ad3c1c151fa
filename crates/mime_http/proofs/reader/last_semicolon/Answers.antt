-- Between two semicolons nothing is read.
use Rattle.std.proofs.Common.{rules}
use Rattle.mime_http.proofs.Common.{is_token_byte}
use Rattle.mime_http.proofs.{ReadAt.nothing_between, ReadAt.over_byte}
use Rattle.mime_http.proofs.reader.last_semicolon.Goals as goal

pub loop-at-preserved : goal.loop-at-preserved
unfolding is_token_byte
loop-at-preserved c = search (over_byte, nothing_between, rules)
