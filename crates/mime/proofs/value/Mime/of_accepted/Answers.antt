-- An accepted text is kept, and reads as the value of what is kept.
use Rattle.std.proofs.Common.{arith}
use Rattle.mime.proofs.{ValueLemmas.KeptText.kept-from_positions, ValueLemmas.KeptText.kept_reads}
use Rattle.mime.proofs.value.Mime.of_accepted.Goals as goal

pub of_kept-requires : goal.of_kept-requires
of_kept-requires c = rw (c.in-Ok.ensures, c.positions_in_kept.ensures) (kept-from_positions _ _ c.requires)

pub returns-in-Ok-clause-read : goal.returns-in-Ok-clause-read
returns-in-Ok-clause-read c = rw (c.of_kept.ensures.media, c.in-Ok.ensures, c.positions_in_kept.ensures) (kept_reads _ _ c.requires)

pub returns-in-Err-clause-explained : goal.returns-in-Err-clause-explained
returns-in-Err-clause-explained c =
    rw c.new.ensures (_, kept_reads _ _ c.requires, omega (arith, c.kept_len.ensures.kept))
