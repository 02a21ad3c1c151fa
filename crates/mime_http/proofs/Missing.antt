-- The pairs of items, of which a range's parameters are looked through.
use Rattle.mime_http.proofs.Common.{Item, List, [], ap, items_of, map, refl, ℕ, ◌∷◌, ◌≡◌}

-- This is an item's name and value.
abbrev pub pairs_of : List Item → List (List ℕ × List ℕ)
pairs_of items = map (λ item. (item.name, item.value)) items

-- The pairs of the items of pairs are the pairs.
pub pairs_of_items : (pairs : List (List ℕ × List ℕ)) → pairs_of (items_of pairs) ≡ pairs
pairs_of_items [] = refl
pairs_of_items ((name, value) ∷ pairs) = ap (λ more. (name, value) ∷ more) (pairs_of_items pairs)
