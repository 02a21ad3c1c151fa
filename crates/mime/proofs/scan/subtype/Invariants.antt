-- The run up to the last plus, with its position, or 0, and then the bytes up to the one that stops them.
use Rattle.std.proofs.Common.{◌≡◌, ◌+◌, ◌-◌, length, Some, None}
use Rattle.std.specs.Prelude.{if◌then◌else◌, ◌==◌}
use Rattle.std.specs.Option.{option_to_list}
use Rattle.mime.specs.Bytes.{is_token_byte}
use Rattle.mime.specs.Inner.Remaining.{Remaining}
use Rattle.mime.specs.Inner.ByteClasses.{is_token_except_plus}
use Rattle.mime.specs.Inner.Scanning.{Passes, Passing}
use Rattle.mime.specs.Values.{last_plus}
use Rattle.mime.proofs.scan.subtype.Given as goal

abbrev pub invariant-loop-stop : goal.invariant-loop-stop
invariant-loop-stop l = record {
  mid : Remaining;
  passing : Passing is_token_byte l.fn.reader mid;
  plus : last_plus (l.fn.reader.count - l.fn.from) passing.run ≡ (if l.plus == 0 then None else Some l.plus);
  passes : Passes is_token_except_plus mid l.reader l.stop;
}

abbrev pub decreases-loop-stop : goal.decreases-loop-stop
decreases-loop-stop l = length l.reader.left + length (option_to_list l.stop)
