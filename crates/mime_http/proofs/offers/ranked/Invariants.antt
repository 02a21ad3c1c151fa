-- The offers so far that weigh enough are ranked.
use Rattle.mime_http.proofs.Common.{map, merit, vec_items}
use Rattle.mime_http.proofs.Order.{Ranked}
use Rattle.mime_http.proofs.offers.ranked.Given as goal

abbrev pub invariant-loop-at : goal.invariant-loop-at
invariant-loop-at l =
    Ranked l.least (map (merit (map (λ range. range.media) l.ranges)) (map (λ offer. offer.media) l.offers)) l.at (vec_items l.ranked)
