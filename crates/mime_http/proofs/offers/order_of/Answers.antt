-- The positions of ranked offers are in order.
use Rattle.mime_http.proofs.Common.{IfOk, IfOk-weaker, map, rules, vec_items, ◌≡◌}
use Rattle.mime_http.proofs.Order.{in_order}
use Rattle.mime_http.proofs.offers.order_of.Goals as goal

pub returns-clause-order : goal.returns-clause-order
returns-clause-order c =
    let order : IfOk c.collect.result (λ order. vec_items order ≡ map (λ offer. offer.1) (vec_items c.in_ok-ranked.ranked)) =
    search rules in
    IfOk-weaker _ _ _ (λ order. in_order (vec_items order) c.in_ok-ranked.ensures) order
