-- Ranges that a parameter keeps from deciding, and weights in quotes, for which each definition is true, and others for which it is false.
use Rattle.mime_http.proofs.Common.{List, MediaType, None, Some, [], codes, false, filter, map, refl, true, ℕ, ◌∷◌, ◌≡◌}
use Rattle.mime_http.specs.Lacks.{begins, is_above, is_quoted, lacked, specificity}

-- This is a media type with this essence and these parameters.
abbrev typed : List ℕ → List (List ℕ × List ℕ) → MediaType
typed essence pairs = record { essence = essence; slash = 1; plus = None; pairs = pairs; kept = essence }

-- This is an offer, and ranges from the most specific to the least.
abbrev offer : MediaType
offer = typed (codes "a/b") ((codes "p", codes "1") ∷ [])

abbrev closer : MediaType
closer = typed (codes "a/b") ((codes "q", codes "1") ∷ (codes "p", codes "\\1") ∷ (codes "r", codes "2")
    ∷ (codes "s", codes "3") ∷ [])

abbrev differing : MediaType
differing = typed (codes "a/b") ((codes "p", codes "2") ∷ [])

-- A range is as specific as the parts that it names, then as the parameters that it demands, if it matches the essence.
specific : (map (specificity offer) (closer ∷ typed (codes "a/*") [] ∷ typed (codes "*/*") [] ∷ typed (codes "c/d") [] ∷ [])
    ≡ Some (2, 3) ∷ Some (1, 0) ∷ Some (0, 0) ∷ None ∷ [])
    × (map (is_above (Some (1, 1))) (None ∷ Some (0, 2) ∷ Some (1, 0) ∷ Some (1, 1) ∷ Some (2, 0) ∷ []) ≡ true ∷ true
    ∷ true ∷ false ∷ false ∷ []) × (is_above None None ≡ false)
specific = (refl, refl, refl)

-- The first parameter that an offer lacks is that of a range that is more specific than the one that decides.
lacking_parameter : (map (λ decider. lacked closer decider offer) (None ∷ Some differing ∷ Some closer ∷ [])
    ≡ Some (codes "r", codes "2") ∷ Some (codes "r", codes "2") ∷ None ∷ [])
    × (lacked differing (Some (typed (codes "a/*") [])) offer ≡ Some (codes "p", codes "2"))
    × (map (λ range. lacked range None offer) (offer ∷ typed (codes "c/d") ((codes "r", codes "2") ∷ []) ∷ []) ≡ None
    ∷ None ∷ [])
lacking_parameter = (refl, refl, refl)

-- The first `q` outside quoted strings is in quotes, or it isn't, or there is none.
in_quotes : (filter (is_quoted false false) (codes "a/b;q=\"1\"" ∷ codes "a/b ;p=\";\\\"q=1\"; Q=\"1\"" ∷ codes "a/b;q=1;q=\"1\""
    ∷ codes "a/b;p=\";q=\""
    ∷ codes "a/b;p=\"\\\";q=\"" ∷ codes "a/b;p=\"q\"" ∷ codes "q=\"1\"" ∷ codes "a/b;q" ∷ codes "a/b;pq=\"1\"" ∷ [])
    ≡ codes "a/b;q=\"1\"" ∷ codes "a/b ;p=\";\\\"q=1\"; Q=\"1\"" ∷ [])
    × (map (begins (codes "q=")) (codes "Q=1" ∷ codes "q" ∷ []) ≡ true ∷ false ∷ [])
in_quotes = (refl, refl)
