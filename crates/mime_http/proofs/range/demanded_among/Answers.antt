-- Each item is of a weight, or counted, or missing.
use Rattle.mime_http.proofs.Common.{length-map, rules}
use Rattle.mime_http.proofs.Demanded.{found_after}
use Rattle.mime_http.proofs.range.demanded_among.Goals as goal

pub loop-name-init : goal.loop-name-init
loop-name-init c = search (found_after, length-map, rules)
