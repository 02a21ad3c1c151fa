-- Nothing but white space is in the next block.
use Rattle.std.proofs.Common.{rules}
use Rattle.mime_http.proofs.Around.{block_trimmed}
use Rattle.mime_http.proofs.list.before_blocks.Goals as goal

pub loop-start-preserved : goal.loop-start-preserved
loop-start-preserved c = search (block_trimmed, rules)
