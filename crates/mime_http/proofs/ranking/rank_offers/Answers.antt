-- Ranked offers say what a ranking does.
use Rattle.std.proofs.Common.{rules, tests}
use Rattle.std.proofs.lemmas.Iterator.{YieldsList-from_map, YieldsList-from_slice, items_from_collect}
use Rattle.mime_http.proofs.Common.{IfOk-weaker, length, length-map, map, sym, vec_items, IfOk, ◌≡◌}
use Rattle.mime_http.{proofs.Order.is_ranking, specs.Ranking.ranked_as}
use Rattle.mime_http.proofs.ranking.rank_offers.Goals as goal

pub returns : goal.returns
returns c =
    let count = length c.args.ranges.now in
    let said : IfOk c.collect.result (λ given. vec_items given ≡ map (λ one. ranked_as count one.0.0 one.1) c.deref.result.now) =
    items_from_collect c.collect.result c.collect.ensures.ran
    (YieldsList-from_map _ (λ one. ranked_as count one.0.0 one.1) (YieldsList-from_slice c.deref.result.now cc)
    c.map-offers.ensures.closure (λ x r q k. search (rules, tests))) in
    IfOk-weaker _ _ _ (λ ranking. is_ranking count (vec_items ranking) c.in_ok-ranked.ensures
    (sym (length-map c.args.ranges.now (λ range. range.media)))) (rw c.deref.ensures.value at said)
