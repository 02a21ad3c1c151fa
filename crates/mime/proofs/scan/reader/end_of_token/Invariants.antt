-- The run goes on from the bytes so far as it does from the start.
use Rattle.std.proofs.Common.{◌≡◌, ◌+◌, ◌-◌, ◌≤◌, length, drop}
use Rattle.std.specs.List.{prefix_len}
use Rattle.mime.specs.Inner.ByteClasses.{token_bytes}
use Rattle.mime.proofs.scan.reader.end_of_token.Given as goal

abbrev pub invariant-loop-at : goal.invariant-loop-at
invariant-loop-at l = record {
  within : l.at ≤ length l.text;
  same : l.at + prefix_len (token_bytes l.with_plus) (drop l.at l.text)
      ≡ l.from + prefix_len (token_bytes l.with_plus) (drop l.from l.text);
}

abbrev pub decreases-loop-at : goal.decreases-loop-at
decreases-loop-at l = length l.text - l.at
