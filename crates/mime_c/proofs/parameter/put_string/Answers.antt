-- The text and a 0 are at the beginning.
use Rattle.std.proofs.Common.{arith}
use Rattle.mime_c.proofs.Writing.{ended_before, wrote-first}
use Rattle.mime_c.proofs.parameter.put_string.Goals as goal

pub returns-clause-bytes : goal.returns-clause-bytes
returns-clause-bytes c = (wrote-first (ended_before _ _ _ _ _ _ (omega (arith)) c.requires c.copy.ensures.writes)).there
