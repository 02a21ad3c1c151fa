-- The bytes so far follow the plus, and the last plus of all of them is known.
use Rattle.std.proofs.Common.{ℕ, ◌-◌, ◌≤◌, length}
use Rattle.mime.specs.{Inner.Remaining.reader_at, Inner.Scanning.PassesPluses}
use Rattle.mime.proofs.scan.reader.end_and_last_plus.Given as goal

abbrev pub invariant-loop-at : goal.invariant-loop-at
invariant-loop-at l = record {
  within : l.at ≤ length l.text;
  order : l.from ≤ l.after_plus;
  passes : (before : ℕ) → PassesPluses (reader_at l.text l.from before) (reader_at l.text l.at before) (l.after_plus - l.from);
}

abbrev pub decreases-loop-at : goal.decreases-loop-at
decreases-loop-at l = length l.text - l.at
