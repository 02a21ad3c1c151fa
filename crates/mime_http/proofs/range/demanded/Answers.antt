-- A weight alone demands nothing of an offer.
use Rattle.mime_http.proofs.Demanded.{demands_no_more}
use Rattle.mime_http.proofs.range.demanded.Goals as goal

pub returns-in-Some : goal.returns-in-Some
returns-in-Some c = demands_no_more c.args.offer.now.media c.args.range.now.media _ _ c.after_essence.ensures.reads
    c.after_essence.ensures.after c.in-Some.ensures
