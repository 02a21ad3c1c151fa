-- The kept text is safe.
use Rattle.std.proofs.Common.{subst, sym}
use Rattle.mime.specs.HeaderLaws.{AreHeaderBytes}
use Rattle.mime_examples.proofs.header.header_text.Goals as goal

pub returns-clause-safe : goal.returns-clause-safe
returns-clause-safe c = subst AreHeaderBytes (sym c.as_str.ensures.text) (c.kept_is_safe.ensures _ _ c.as_str.ensures.reads).kept
