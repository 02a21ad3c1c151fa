-- The bytes before the quote lead outside strings, each search goes on there, and a string is left at its end.
use Rattle.std.proofs.Common.{rules}
use Rattle.mime_http.proofs.{Cuts.run_to}
use Rattle.mime_http.proofs.list.quoted_piece_len.Goals as goal

pub loop-at-init : goal.loop-at-init
loop-at-init c = search (run_to, rules)
