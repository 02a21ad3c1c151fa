-- What is left of the two means the same exactly if they do.
use Rattle.mime_http.proofs.Common.{bytes_eq, length, unescaped, ◌≡◌}
use Rattle.mime_http.proofs.meaning.differ_but_mean_the_same.Given as goal

abbrev pub invariant-loop-byte : goal.invariant-loop-byte
invariant-loop-byte l = bytes_eq (unescaped l.left) (unescaped l.other_left) ≡ bytes_eq (unescaped l.value) (unescaped l.other)

abbrev pub decreases-loop-byte : goal.decreases-loop-byte
decreases-loop-byte l = length l.left
