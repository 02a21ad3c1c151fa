-- A kept text is read as the value of its parts.
use Rattle.mime.proofs.ValueLemmas.KeptText.{reads-from_kept}
use Rattle.mime.proofs.value.Mime.fixed.Goals as goal

pub returns-clause-reads : goal.returns-clause-reads
returns-clause-reads c = rw (c.of_kept.ensures.media, c.copied.ensures) (reads-from_kept _ _ c.requires.kept)
