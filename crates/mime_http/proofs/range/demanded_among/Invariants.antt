-- The parameters that are left decide, and there is room to count them.
use Rattle.mime_http.proofs.Common.{length, option_map, ◌+◌, ◌≡◌, ◌≤◌}
use Rattle.mime_http.proofs.Demanded.{found_from, found_in}
use Rattle.mime_http.proofs.range.demanded_among.Given as goal

abbrev pub invariant-loop-name : goal.invariant-loop-name
invariant-loop-name l = record {
  found : found_from l.offer.media l.count (option_map (λ text. text.now) l.weight) l.name-iterator
      ≡ found_in l.offer.media l.range.media.pairs;
  room : l.count + length l.name-iterator ≤ l.most;
}
