-- Digits and dots are a token.
use Rattle.mime_http.proofs.Common.{[], arith, get_or, rules, sym, text_from_reads, ◌∙◌, ◌∷◌}
use Rattle.mime_http.proofs.Demanded.{decimals_are, number_is_token}
use Rattle.mime_http.proofs.weights.number.Goals as goal

pub returns : goal.returns
returns c =
    let all = sym c.are_digits_or_dots.ensures ∙ c.if-not-are_digits_or_dots.false in
    (number_is_token c.args.weight.now (λ none. grind (arith, none)) all, c.thousandths.ensures)

pub returns-in-48 : goal.returns-in-48
returns-in-48 c =
    let weight = c.args.weight.now in
    let digits = get_or weight 2 0 ∷ get_or weight 3 0 ∷ [] in
    let is = text_from_reads weight (48 ∷ 46 ∷ digits) (omega (arith, c.in-48.len_below, c.in-48.len_at_least)) (search rules) in
    decimals_are weight digits _ is (search rules) (search rules)
