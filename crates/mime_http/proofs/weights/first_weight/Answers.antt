-- A space may stand before the name.
use Rattle.mime_http.proofs.Common.{[], arith, codes, get_or, refl, rules, suc, take_rest, zero, ℕ, ◌<◌, ◌∙◌, ◌∷◌, ◌≡◌}
use Rattle.std.proofs.lemmas.List.Prefix.{front_from_reads}
use Rattle.mime_http.proofs.weights.first_weight.Goals as goal

-- These bytes are where the pattern has them.
read : (c : goal.In-59-2) (i : ℕ) → i < 4 → get_or c.args.parameters.now i 0 ≡ get_or (codes "; q=") i 0
read c zero within = search rules
read c (suc zero) within = search rules
read c (suc (suc zero)) within = search rules
read c (suc (suc (suc zero))) within = search rules
read c (suc (suc (suc (suc i)))) within = absurd (omega (arith, within))

pub returns-in-59-2 : goal.returns-in-59-2
returns-in-59-2 c =
    (32 ∷ [], refl, front_from_reads 0 c.args.parameters.now (codes "; q=") c.in-59-2.len_at_least (read c) ∙ search (take_rest, rules))
