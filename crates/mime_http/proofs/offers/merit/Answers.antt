-- The next range is the first of those that are left.
use Rattle.std.proofs.Common.{rules}
use Rattle.mime_http.proofs.Common.{drop_more}
use Rattle.mime_http.proofs.offers.merit.Goals as goal

pub loop-at-preserved : goal.loop-at-preserved
loop-at-preserved c = search (drop_more, rules)
