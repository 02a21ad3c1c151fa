-- An accepted text reads as the value of what is kept.
use Rattle.mime.proofs.ValueLemmas.KeptText.{kept-from_positions, kept_reads}
use Rattle.mime.proofs.value.Mime.of_short.Goals as goal

pub of_kept-requires : goal.of_kept-requires
of_kept-requires c = rw (c.requires.kept, c.positions_in_kept.ensures) (kept-from_positions _ _ c.requires.accepted)

pub returns-clause-read : goal.returns-clause-read
returns-clause-read c = rw (c.of_kept.ensures.media, c.requires.kept, c.positions_in_kept.ensures) (kept_reads _ _ c.requires.accepted)
