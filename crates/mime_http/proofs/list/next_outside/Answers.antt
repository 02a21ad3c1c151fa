-- A search finds the next mark.
use Rattle.mime_http.proofs.Common.{arith}
use Rattle.mime_http.proofs.Cuts.{mark_found, outside_next}
use Rattle.mime_http.proofs.list.next_outside.Goals as goal

pub returns : goal.returns
returns c = outside_next c.args.line.now c.args.from _ (omega (arith, c.requires))
    (mark_found _ 44 61 c.of.ensures c.args.line.now c.args.from c.first_stop.result c.first_stop.ensures.end)
