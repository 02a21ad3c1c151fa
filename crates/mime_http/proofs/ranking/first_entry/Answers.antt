-- The first piece of the line's cut.
use Rattle.mime_http.proofs.Common.{arith, refl, take_rest, ◌+◌}
use Rattle.mime_http.proofs.Cuts.{first_entry, last_entry}
use Rattle.mime_http.proofs.ranking.first_entry.Goals as goal

pub returns-then-end-line : goal.returns-then-end-line
returns-then-end-line c =
    rw (take_rest c.args.line.now (c.piece_end-end.result + 1))
    (first_entry c.args.line.now (omega (arith, c.piece_end-end.ensures.piece)) c.if-end-line.true)

pub returns-else-end-line : goal.returns-else-end-line
returns-else-end-line c = (refl, last_entry c.args.line.now (omega (arith, c.piece_end-end.ensures.piece)) c.if-end-line.false)
