-- The highest rank so far, and its first place.
use Rattle.mime_http.proofs.Common.{IfSome, map, merit, ◌<◌}
use Rattle.mime_http.proofs.Highest.{IsHighest}
use Rattle.mime_http.proofs.offers.best_of.Given as goal

abbrev pub invariant-loop-at : goal.invariant-loop-at
invariant-loop-at l = record {
  first : IsHighest (map (merit (map (λ range. range.media) l.ranges)) (map (λ offer. offer.media) l.offers)) l.at l.most l.best;
  within : IfSome l.best (λ best. best < l.at);
}
