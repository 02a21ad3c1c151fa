-- The bytes that are passed are bytes of quoted text.
use Rattle.mime.proofs.{StopsLemmas.are_quoted_text, ScanLemmas.Passing.reaches_wider}
use Rattle.mime.proofs.scan.reader.ByteReader.skip_quoted_text.Goals as goal

pub returns-then-self-ne34 : goal.returns-then-self-ne34
returns-then-self-ne34 c = reaches_wider are_quoted_text c.skip_blocks.ensures
