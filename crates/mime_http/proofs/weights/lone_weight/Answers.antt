-- A weight of one decimal means so many tenths.
use Rattle.mime_http.proofs.Common.{[], arith, get_or, rules, text_from_reads, ◌∷◌}
use Rattle.mime_http.proofs.Demanded.{decimals_are}
use Rattle.mime_http.proofs.weights.lone_weight.Goals as goal

pub returns-in-48 : goal.returns-in-48
returns-in-48 c =
    let weight = c.in_ok-weight.weight.now in
    let digits = get_or weight 2 0 ∷ [] in
    let is = text_from_reads weight (48 ∷ 46 ∷ digits) (omega (arith, c.in-48.len_below, c.in-48.len_at_least)) (search rules) in
    let meant = decimals_are weight digits c.tenths.result is (search rules) (search rules) in
    (weight, c.in_ok-weight.ensures, meant.0, meant.1)
