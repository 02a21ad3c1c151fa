-- A range that covers none of the offers only moves the ranges after it by one position, which changes no comparison.
use Rattle.std.proofs.Common.{rules}
use Rattle.mime_http.proofs.Common.{cons_option, filter_map, find, Contains, List, MediaType, None, Rank, StrangerChangesNothing, [], ap}
use Rattle.mime_http.proofs.Common.{arith, closeness, enumerate_from, get_or, if◌then◌else◌, length, length-append, list_all-map, map}
use Rattle.mime_http.proofs.Common.{merit, nat_cmp, nat_lt, nat_tests, option_map, ordering_then, position, rank_cmp, refl, sym, zero, ℕ}
use Rattle.mime_http.proofs.Common.{◌++◌, ◌+◌, ◌-◌, ◌∙◌, ◌∷◌, ◌≡◌, ◌≤◌, Contains-append_right}
use Rattle.std.proofs.Math.ListN.{get_or-map}
use Rattle.mime_http.specs.Ranges.{ComesBefore}
use Rattle.mime_http.proofs.Highest.{is_best, lowest, position-map, rank_at, is_top}

-- This is a rank with another last place.
abbrev moved : (ℕ → ℕ) → Rank → Rank
moved g rank = (rank.0, rank.1, rank.2, g rank.3)

-- This is how closely a range covers an offer, once it stands elsewhere.
covers_so : (offer range : MediaType) (g : ℕ → ℕ) (at : ℕ)
    → closeness offer (g at, range) ≡ option_map (moved g) (closeness offer (at, range))
covers_so offer range g at = grind (arith)

module _ (g : ℕ → ℕ) (same : (x y : ℕ) → nat_cmp (g x) (g y) ≡ nat_cmp x y) where
  -- If moved places are in the same order, then so are ranks.
  same_order : (x y : Rank) → rank_cmp (moved g x) (moved g y) ≡ rank_cmp x y
  same_order x y = ap (ordering_then (ordering_then (ordering_then (nat_cmp x.0 y.0) (nat_cmp x.1 y.1)) (nat_cmp x.2 y.2))) (same x.3 y.3)

  -- A rank is above all others exactly if it is so after all are moved.
  same_top : (all : List Rank) (one : Rank) → is_top (map (moved g) all) (moved g one) ≡ is_top all one
  same_top all one = search (list_all-map, same_order, rules)

  -- The highest of moved ranks is the moved highest.
  same_found : (all ranks : List Rank)
      → find (is_top (map (moved g) all)) (map (moved g) ranks) ≡ option_map (moved g) (find (is_top all) ranks)
  same_found all [] = refl
  same_found all (one ∷ ranks) = rw (same_top all one) (grind (arith, same_found all ranks))

  -- The best of moved ranks has the same position.
  same_best : (all : List Rank) → position (is_best (map (moved g) all)) (map (moved g) all) ≡ position (is_best all) all
  same_best all = search (position-map, same_top, rules)

  module _ (all : List Rank) (none : moved g lowest ≡ lowest) where
    -- An offer's rank is moved.
    rank_so : (at : ℕ) → rank_at (map (moved g) all) at ≡ moved g (rank_at all at)
    rank_so at = ap (get_or (map (moved g) all) at) (sym none) ∙ get_or-map (moved g) all at lowest

    -- An offer comes before the same others after all ranks are moved.
    same_turn : (at other : ℕ) → ComesBefore (rank_at all) at other → ComesBefore (rank_at (map (moved g) all)) at other
    same_turn at other before = grind (arith, rank_so at, rank_so other, same_order (rank_at all at) (rank_at all other), before)

-- ---- the closest range

-- This is a position once there is one more range at another.
abbrev shifted : ℕ → ℕ → ℕ
shifted k at = if nat_lt at k then at else at + 1

-- This is how closely ranges from a position on cover an offer, those that do.
abbrev ranks_from : MediaType → ℕ → List MediaType → List Rank
ranks_from offer at ranges = filter_map (closeness offer) (enumerate_from at ranges)

module _ (offer : MediaType) (k : ℕ) where
  -- A range before others covers as closely at its new position.
  moved_first : (range : MediaType) (at to : ℕ) (rest : List Rank) → shifted k at ≡ to
      → cons_option (closeness offer (to, range)) (map (moved (shifted k)) rest)
      ≡ map (moved (shifted k)) (cons_option (closeness offer (at, range)) rest)
  moved_first range at to rest there = rw (sym there, covers_so offer range (shifted k) at) (grind arith)

  -- Ranges cover as closely one position later.
  later : (at : ℕ) (ranges : List MediaType) → k ≤ at
      → ranks_from offer (at + 1) ranges ≡ map (moved (shifted k)) (ranks_from offer at ranges)
  later at [] after = refl
  later at (range ∷ ranges) after = ap (cons_option (closeness offer (at + 1, range))) (later (at + 1) ranges (omega (arith, after)))
      ∙ moved_first range at (at + 1) _ (grind (arith, nat_tests))

  -- Ranges cover as closely with a range before them that covers nothing.
  one_range_more : (range : MediaType) (after : List MediaType) → closeness offer (0, range) ≡ None
      → (at : ℕ) (before : List MediaType) → k ≡ at + length before
      → ranks_from offer at (before ++ (range ∷ after)) ≡ map (moved (shifted k)) (ranks_from offer at (before ++ after))
  one_range_more range after none at [] long = search (covers_so, later, rules)
  one_range_more range after none at (other ∷ before) long =
      search (one_range_more range after none (at + 1) before (omega (arith, long)), moved_first, nat_tests, rules)

module _ (before after : List MediaType) (range : MediaType) where
  -- This is how early a range stands that stood so early without this one.
  abbrev raised : ℕ → ℕ
  raised early = if nat_lt (length (before ++ after) - early) (length before) then early + 1 else early

  -- An offer that no range covers ranks as before.
  none_stays : moved raised lowest ≡ lowest
  none_stays = grind (arith, nat_tests, length-append before after)

  -- Each offer's rank is moved.
  merit_so : (offer : MediaType) → closeness offer (0, range) ≡ None
      → merit (before ++ (range ∷ after)) offer ≡ moved raised (merit (before ++ after) offer)
  merit_so offer none =
      let g = shifted (length before) in
      let old = ranks_from offer 0 (before ++ after) in
      let kept = ap (λ all. find (is_top all) all) (one_range_more offer (length before) range after none 0 before (omega arith))
      ∙ same_found g (λ x y. grind (arith, nat_tests)) old old in
      rw kept (grind (arith, nat_tests, length-append before after, length-append before (range ∷ after)))

  -- The ranks of all offers are moved.
  merits_so : (offers : List MediaType) → ((offer : MediaType) → Contains offers offer → closeness offer (0, range) ≡ None)
      → map (merit (before ++ (range ∷ after))) offers ≡ map (moved raised) (map (merit (before ++ after)) offers)
  merits_so [] none = refl
  merits_so (offer ∷ offers) none = λ i. merit_so offer (none offer (zero, omega arith, refl)) i
      ∷ merits_so offers (λ other there. none other (Contains-append_right (offer ∷ []) offers other there)) i

-- A range that covers none of the offers changes nothing.
pub stranger_changes_nothing : StrangerChangesNothing
stranger_changes_nothing before after offers range none =
    let old = map (merit (before ++ after)) offers in
    let g = raised before after range in
    let alike : (x y : ℕ) → nat_cmp (g x) (g y) ≡ nat_cmp x y = λ x y. grind (arith, nat_tests) in
    let stays = none_stays before after range in
    let ranks = merits_so before after range offers none in (
      λ offer there. ap (λ (rank : Rank). rank.0) (merit_so before after range offer (none offer there)),
      ap (λ all. position (is_best all) all) ranks ∙ same_best g alike old,
      λ order are. record {
        best_first = rw ranks (λ i j d below within. same_turn g alike old stays _ _ (are.best_first i j d below within));
        all = λ at. rw (ranks, rank_so g alike old stays at) (are.all at);
      },
    )
