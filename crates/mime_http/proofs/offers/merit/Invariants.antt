-- The closest so far, and the ranges that are left, give the closest of all.
use Rattle.mime_http.proofs.Common.{IfSome, closeness, closest, drop, enumerate_from, fold, length, map, option_cmp, ord_max, rank_cmp, ◌<◌}
use Rattle.mime_http.proofs.Common.{◌≡◌}
use Rattle.mime_http.proofs.offers.merit.Given as goal

abbrev pub invariant-loop-at : goal.invariant-loop-at
invariant-loop-at l = (fold (ord_max (option_cmp rank_cmp)) l.closest.1 (map (closeness l.offer.media)
    (enumerate_from l.at (map (λ range. range.media) (drop l.at l.ranges))))
    ≡ closest (map (λ range. range.media) l.ranges) l.offer.media)
    × (l.closest.0 ≡ length l.ranges) × IfSome l.closest.1 (λ kept. kept.3 < l.at)
