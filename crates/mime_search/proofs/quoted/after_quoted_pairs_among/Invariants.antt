-- The bits are those of the bytes that are left, and what is left ends where the whole does.
use Rattle.std.proofs.Common.{◌≡◌, ◌≤◌, ◌+◌, ◌-◌, false, map, take, drop}
use Rattle.std.specs.Prelude.{◌==◌, ◌||◌}
use Rattle.std.specs.Simd.Lanes.{mask_l}
use Rattle.mime_search.specs.Quoted.{quote, backslash, len_from}
use Rattle.mime_search.proofs.quoted.after_quoted_pairs_among.Given as goal

abbrev pub invariant-loop-left : goal.invariant-loop-left
invariant-loop-left l = record {
  least : l.from ≤ l.at;
  within : l.at ≤ l.end;
  bits : l.left ≡ mask_l (map (λ b. b == quote || b == backslash) (take (l.end - l.at) (drop l.at l.text)));
  left : l.at + len_from false (drop l.at l.text) ≡ l.from + len_from false (drop l.from l.text);
}

abbrev pub decreases-loop-left : goal.decreases-loop-left
decreases-loop-left l = l.end - l.at
