use Rattle.mime_http.proofs.Order.{one_ranking}
use Rattle.mime_http.proofs.laws.one_ranking.Goals as goal

pub returns : goal.returns
returns c = one_ranking
