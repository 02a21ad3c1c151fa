-- What was added so far, and what is left to add, are the whole, and there is room for the rest.
use Rattle.mime_http.proofs.Common.{drop, worth, ◌*◌, ◌+◌, ◌≡◌, ◌≤◌}
use Rattle.mime_http.proofs.weights.decimals_of.Given as goal

abbrev pub invariant-loop-byte : goal.invariant-loop-byte
invariant-loop-byte l = record {
  sum : l.sum + worth l.unit (drop l.byte-index l.bytes) ≡ worth 100 l.bytes;
  room : l.sum + 10 * l.unit ≤ 1000;
}
