-- The kept text reads as the value.
use Rattle.mime.proofs.ValueLemmas.KeptText.{reads-from_kept}
use Rattle.mime.proofs.value.Mime.as_str.Goals as goal

pub returns-clause-reads : goal.returns-clause-reads
returns-clause-reads c = rw (c.as_str.ensures, ← c.self.view_is) (reads-from_kept _ _ c.self.invariant.kept)
