-- Before a comma that is the first mark, or to the end.
use Rattle.mime_http.proofs.Common.{arith, before_mark, common_steps, drop, false, get_or, get_or-drop, sym, take_rest, ◌==◌, ◌≡◌}
use Rattle.mime_http.proofs.Cuts.{mark_found, piece_to}
use Rattle.mime_http.proofs.list.piece_end.Goals as goal

pub quoted_piece_len-requires-clause-unmarked : goal.quoted_piece_len-requires-clause-unmarked
quoted_piece_len-requires-clause-unmarked c = rw (take_rest c.args.line.now c.args.from)
    (omega (arith, mark_found _ 44 34 c.of.ensures c.args.line.now c.args.from c.first_stop-mark.result c.first_stop-mark.ensures.end))

pub returns-clause-piece : goal.returns-clause-piece
returns-clause-piece c =
    let rest = drop c.args.from c.args.line.now in
    let is = mark_found _ 44 34 c.of.ensures c.args.line.now c.args.from c.first_stop-mark.result c.first_stop-mark.ensures.end in
    let other : (get_or rest (before_mark 44 34 rest) 0 == 34) ≡ false =
    rw (get_or-drop c.args.from c.args.line.now (before_mark 44 34 rest) 0, sym is) (grind (arith, common_steps)) in
    omega (arith, is, piece_to rest other)
