-- What is added, and what is left to add, make up the rows of the parameters.
use Rattle.mime.specs.Items.{Item}
use Rattle.mime_headers.proofs.Common.{List, codes, flat_map, row, unescaped, vec_items, ℕ, ◌++◌, ◌≡◌}
use Rattle.mime_headers.proofs.report.push_params.Given as goal

abbrev pub invariant-loop-name : goal.invariant-loop-name
invariant-loop-name l =
    let rows : List Item → List ℕ = flat_map (λ item. row (codes "param ") (item.name ++ (codes "=" ++ unescaped item.value))) in
    vec_items l.text ++ rows l.name-iterator ≡ vec_items l.initial.text ++ rows l.initial.name-iterator
