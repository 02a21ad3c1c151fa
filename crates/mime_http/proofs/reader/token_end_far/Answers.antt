-- A token byte goes on the run, and so do the bytes that a search passes.
use Rattle.std.proofs.Common.{rules}
use Rattle.mime_http.proofs.Common.{prefix_len-drop_yes}
use Rattle.mime_http.proofs.ReadAt.{are_token_bytes, run_goes_on}
use Rattle.mime_http.proofs.reader.token_end_far.Goals as goal

pub loop-at-preserved-then-at-from-eq0 : goal.loop-at-preserved-then-at-from-eq0
loop-at-preserved-then-at-from-eq0 c = search (run_goes_on, are_token_bytes, prefix_len-drop_yes, rules)
