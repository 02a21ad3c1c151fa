-- At first all parameters are left.
use Rattle.mime_http.proofs.Common.{rules}
use Rattle.mime_http.proofs.Missing.{pairs_of_items}
use Rattle.mime_http.proofs.lacks.first_lacked.Goals as goal

pub loop-name-init : goal.loop-name-init
loop-name-init c = search (pairs_of_items, rules)
