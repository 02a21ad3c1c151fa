-- The laws, each proved where its words are.
use Rattle.mime_c.proofs.OneOutcome.{lists_to_one}
use Rattle.mime_c.proofs.HeaderOutcome.{accepts_to_one, best_is_one}
use Rattle.mime_c.proofs.OrderOutcome.{order_is_one}
use Rattle.mime_c.proofs.ValueOutcome.{unescapes_to_one}

-- Each law on one call.
pub ruleset laws = (lists_to_one, accepts_to_one, best_is_one, order_is_one, unescapes_to_one)
