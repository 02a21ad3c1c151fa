-- What is counted, and what is left to count, is demanded; and there is room to count it.
use Rattle.mime_http.proofs.Common.{demanded, length, ◌+◌, ◌≡◌, ◌≤◌}
use Rattle.mime_http.proofs.Missing.{pairs_of}
use Rattle.mime_http.proofs.lacks.demanded_count.Given as goal

abbrev pub invariant-loop-name : goal.invariant-loop-name
invariant-loop-name l = record {
  counted : l.count + length (demanded (pairs_of l.name-iterator)) ≡ length (demanded l.range.media.pairs);
  room : l.count + length l.name-iterator ≤ l.most;
}
