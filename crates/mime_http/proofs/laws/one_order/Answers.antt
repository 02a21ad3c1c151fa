use Rattle.mime_http.proofs.Order.{one_order}
use Rattle.mime_http.proofs.laws.one_order.Goals as goal

pub returns : goal.returns
returns c = one_order
