-- The rest of a text is the end of its last block.
use Rattle.std.proofs.Common.{rules}
use Rattle.mime_search.proofs.Searches.{last_bits}
use Rattle.mime_search.proofs.search.stops_from.Goals as goal

pub returns-clause-mask : goal.returns-clause-mask
returns-clause-mask c = search (last_bits, rules)
