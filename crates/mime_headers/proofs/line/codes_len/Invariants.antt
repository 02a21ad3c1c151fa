-- The bytes so far are digits and semicolons.
use Rattle.mime_headers.proofs.Common.{drop, is_ascii_digit, prefix_len, ◌+◌, ◌==◌, ◌||◌, ◌≡◌}
use Rattle.mime_headers.proofs.line.codes_len.Given as goal

abbrev pub invariant-loop-at : goal.invariant-loop-at
invariant-loop-at l =
    l.at + prefix_len (λ b. is_ascii_digit b || b == 59) (drop l.at l.bytes) ≡ prefix_len (λ b. is_ascii_digit b || b == 59) l.bytes
