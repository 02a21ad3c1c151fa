-- Offers that are sorted by their ranks are in order, of which the first is the best.
use Rattle.std.proofs.Common.{rules}
use Rattle.mime_http.proofs.Common.{BestIsRankedFirst, NoneIsBest, OneOrderOfOffers, OneRanking, by_option, get_or_from_slice_get}
use Rattle.mime_http.proofs.Common.{option_map}
use Rattle.mime_http.proofs.Common.{slice_get_within, unwrap_or, AllPairs, All-contains, Option, best_offer, if◌then◌else◌, position}
use Rattle.mime_http.proofs.Common.{slice_get, AreInOrder, Contains, IsDistinct, IsTotalOrder, List, MediaType, Ordering, Rank, Reverse, []}
use Rattle.mime_http.proofs.Common.{ap, arith, back_total, false, flip_args, get_or, get_or_past, cases_Bool, inl, inr, is_gt, is_lt}
use Rattle.mime_http.proofs.Common.{length, length-map, map, map-append, merit, nat_cmp, nat_cmp_total, nat_tests, ne_eqb, on, on_total}
use Rattle.mime_http.proofs.Common.{ordering_then, rank_cmp, subst, sym, then_cmp, true, then_total, ℕ, ⊎_elim, ◌++◌, ◌+◌, ◌<◌, ◌==◌, ◌∙◌}
use Rattle.mime_http.proofs.Common.{◌∷◌, ◌≡◌, ◌≤◌, ◌⊎◌, All, cases_lt, All-map, All-push, Contains-append_left, Contains-append_right}
use Rattle.mime_http.proofs.Common.{BestIsAcceptable, BestIsFirst, None, Some, and_parts, get_or-map, nat_lt, refl, slice_get-get_or, suc}
use Rattle.mime_http.proofs.Common.{zero}
use Rattle.std.specs.List.Sorted.{IsPermutation, IsSorted}
use Rattle.std.proofs.lemmas.List.Quantifiers.{all_pairs_push, position-Some}
use Rattle.std.proofs.lemmas.List.Sorted.{ranks_by, sorted_far, All-permutation, IsPermutation-map, Contains-permutation}
use Rattle.std.proofs.lemmas.Map.Keys.{IsDistinct-IsPermutation, IsDistinct-from_apart, apart_from_distinct}
use Rattle.std.proofs.Math.ListN.{get_or-map as get_or-map_at}
use Rattle.mime_http.specs.Ranges.{ComesBefore, merit_at}
use Rattle.mime_http.specs.Ranking.{IsRanking, ranked_as}
use Rattle.mime_http.specs.Sorted.{AreRanked}
use Rattle.mime_http.specs.declared.ranking.RankedOffer.{RankedOffer}
use Rattle.mime_http.proofs.Highest.{all_weigh_0, best_is_found, is_best, lowest, one_rank, rank_at, ranks_total}

-- What weighs something is an offer's.
pub weighs_within : (ranks : List Rank) (at : ℕ) → 0 < (rank_at ranks at).0 → at < length ranks
weighs_within ranks at weighs = grind (arith, weighs, get_or_past ranks at lowest)

-- ---- offers with their ranks

-- The position of an offer among all offers.
abbrev place : Reverse Rank × ℕ → ℕ
place offer = offer.1

-- An offer before a position has its rank, and weighs enough.
abbrev HasRank : ℕ → List Rank → ℕ → Reverse Rank × ℕ → Type 0
HasRank least ranks at offer = (offer.0.0 ≡ rank_at ranks offer.1) × (offer.1 < at) × (least ≤ offer.0.0.0)

-- These are all offers before a position that weigh enough, each with its rank.
pub record Ranked (least : ℕ) (ranks : List Rank) (at : ℕ) (found : List (Reverse Rank × ℕ)) : Type 0 where
  pub are : All (HasRank least ranks at) found
  pub all : (i : ℕ) → i < at → least ≤ (rank_at ranks i).0 → Contains (map place found) i
  pub apart : AllPairs (λ x y. x.1 < y.1) found

module _ {least : ℕ} {ranks : List Rank} {at : ℕ} {found : List (Reverse Rank × ℕ)} (was : Ranked least ranks at found) where
  -- Those before it are before the next position.
  still : All (HasRank least ranks (at + 1)) found
  still = λ k d within. let is = was.are k d within in (is.0, omega (arith, is.1), is.2)

  -- An offer that weighs enough is one more.
  pub one_ranked : (offer : Reverse Rank × ℕ) → offer.1 ≡ at → offer.0.0 ≡ rank_at ranks at → least ≤ offer.0.0.0
      → Ranked least ranks (at + 1) (found ++ (offer ∷ []))
  one_ranked offer there rank weighs = record {
    are = All-push (HasRank least ranks (at + 1)) found offer still (rank ∙ ap (rank_at ranks) (sym there), omega (arith, there), weighs);
    all = λ i below some. rw (map-append place found (offer ∷ []))
        (⊎_elim (λ less. Contains-append_left (map place found) (offer.1 ∷ []) i (was.all i less some))
        (λ least. Contains-append_right (map place found) (offer.1 ∷ []) i (0, omega arith, omega (arith, there, below, least)))
        (cases_lt i at));
    apart = all_pairs_push (λ x y. x.1 < y.1) found offer was.apart (λ k d within. omega (arith, there, (was.are k d within).1));
  }

  -- An offer that weighs too little isn't one more.
  pub none_more : ¬ (least ≤ (rank_at ranks at).0) → Ranked least ranks (at + 1) found
  none_more light = search (cases_lt, rules)

-- ---- sorted, they are in order

-- Offers are compared by their ranks, the higher first, and then by their positions.
abbrev pub offer_cmp : Reverse Rank × ℕ → Reverse Rank × ℕ → Ordering
offer_cmp = then_cmp (flip_args (on (λ offer. offer.0.0) rank_cmp)) (on place nat_cmp)

-- Offers are in a total order.
offers_total : IsTotalOrder offer_cmp
offers_total = then_total (back_total (on_total (λ offer. offer.0.0) ranks_total)) (on_total place nat_cmp_total)

-- One that isn't after another is higher, or as high and offered earlier.
first_by : (x y : Rank) (i j : ℕ) → is_lt (ordering_then (rank_cmp x y) (nat_cmp j i)) ≡ false → (i == j) ≡ false
    → (is_gt (rank_cmp x y) ≡ true) ⊎ ((x ≡ y) × (i < j))
first_by x y i j low differ = search (one_rank, nat_tests, cases_Bool, rules)

module _ {least : ℕ} {ranks : List Rank} {at : ℕ} (found sorted : List (Reverse Rank × ℕ)) (was : Ranked least ranks at found)
    (moved : IsPermutation found sorted) where
  -- Sorted offers have their ranks.
  stand : All (HasRank least ranks at) sorted
  stand = All-permutation (HasRank least ranks at) found sorted moved was.are

  -- Sorted offers are at different positions, so each comes before those after it.
  in_turn : IsSorted offer_cmp sorted → AllPairs (ComesBefore (rank_at ranks)) (map place sorted)
  in_turn up i j e before below =
      let d : Reverse Rank × ℕ = (record { 0 = lowest }, e) in
      let within : j < length sorted = omega (arith, below, length-map sorted place) in
      let same_place = λ (x y : Reverse Rank × ℕ). x.1 == y.1 in
      let distinct : IsDistinct same_place sorted =
      IsDistinct-IsPermutation same_place (λ x y. grind (arith, nat_tests)) found sorted moved (IsDistinct-from_apart same_place found
      (λ i j d before within. ne_eqb _ _ (λ same. absurd (omega (arith, same, was.apart i j d before within))))) in
      let far = sorted_far (λ a b. is_lt (offer_cmp a b)) (ranks_by offers_total (λ offer. offer)) sorted up i j d
      (omega (arith, before)) within in
      rw (get_or-map_at place sorted i d, get_or-map_at place sorted j d) (first_by _ _ _ _
      (rw ((stand i d (omega (arith, before, within))).0, (stand j d within).0) at far)
      (apart_from_distinct same_place sorted i j d distinct before within))

-- Sorted offers are in order.
pub are_ranked : (least : ℕ) (ranges offers : List MediaType) {at : ℕ} (found sorted : List (Reverse Rank × ℕ))
    → at ≡ length offers
    → Ranked least (map (merit ranges) offers) at found → IsPermutation found sorted → IsSorted offer_cmp sorted
    → AreRanked least ranges offers sorted
are_ranked least ranges offers found sorted past was moved up =
    let ranks = map (merit ranges) offers in
    let Counts = λ (i : ℕ). (i < length offers) × (least ≤ (rank_at ranks i).0) in
    record {
      best_first = in_turn found sorted was moved up;
      all = λ i. (
        All-contains Counts (map place sorted) i (All-map Counts place sorted (λ k d within.
            let is = stand found sorted was moved k d within in
            (omega (arith, past, is.1), rw is.0 at is.2))),
        λ counts. Contains-permutation (map place found) (map place sorted) i (IsPermutation-map place found sorted moved)
            (was.all i (omega (arith, past, counts.0)) counts.1),
      );
      ranks = λ k d within. (stand found sorted was moved k d within).0;
    }

-- The positions of the offers that weigh something are in order.
pub in_order : {ranges offers : List MediaType} {ranked : List (Reverse Rank × ℕ)} (order : List ℕ)
    → AreRanked 1 ranges offers ranked → order ≡ map (λ offer. offer.1) ranked → AreInOrder ranges offers order
in_order {ranges} {offers} order are is = search (weighs_within, length-map, rules)

-- What all offers say of the ranges that decide is the ranking.
pub is_ranking : {ranges offers : List MediaType} {ranked : List (Reverse Rank × ℕ)} (count : ℕ) (ranking : List RankedOffer)
    → AreRanked 0 ranges offers ranked → count ≡ length ranges → ranking ≡ map (λ one. ranked_as count one.0.0 one.1) ranked
    → IsRanking ranges offers ranking
is_ranking {ranges} {offers} {ranked} count ranking are counted is = record {
  order = map place ranked;
  best_first = are.best_first;
  all = λ at. (λ there. ((are.all at).0 there).0, λ within. (are.all at).1 (within, omega arith));
  given = is ∙ (ap (λ n. map (λ one. ranked_as n one.0.0 one.1) ranked) counted ∙ said ranked are.ranks);
}
  where
    said : (offers_too : List (Reverse Rank × ℕ)) → All (λ offer. offer.0.0 ≡ merit_at ranges offers offer.1) offers_too
        → map (λ one. ranked_as (length ranges) one.0.0 one.1) offers_too
        ≡ map (λ at. ranked_as (length ranges) (merit_at ranges offers at) at) (map place offers_too)
    said [] all = refl
    said (one ∷ more) all = λ i. ranked_as (length ranges) (all 0 one (omega arith) i) one.1
        ∷ said more (λ k d within. all (suc k) d (omega (arith, within))) i

-- ---- the best offer is the first in order

-- This is the first of an order, if it weighs something.
abbrev first_weighs : List Rank → List ℕ → Option ℕ
first_weighs ranks [] = None
first_weighs ranks (at ∷ order) = if nat_lt 0 (rank_at ranks at).0 then Some at else None

-- The first of an order of all that weigh something is the best.
best_by_order : (ranks : List Rank) (order : List ℕ) → AllPairs (ComesBefore (rank_at ranks)) order
    → ((at : ℕ) → 0 < (rank_at ranks at).0 → Contains order at) → position (is_best ranks) ranks ≡ first_weighs ranks order
best_by_order ranks [] first all = best_is_found {at = length ranks} {most = lowest} {best = None} (record {
  above = λ at _ weighs. absurd (omega (arith, (all at weighs).1));
  first = λ some. absurd (omega (arith, some));
  none = λ _. refl;
}) (omega arith)
best_by_order ranks (best ∷ others) first all = best_is_found {at = length ranks} {most = rank_at ranks best} (record {
  above = λ at _ weighs. grind (arith, nat_tests, stands at weighs);
  first = λ some. (best, grind (arith, nat_tests, some), refl, λ at less weighs. grind (arith, nat_tests, less, stands at weighs));
  none = λ light. grind (arith, nat_tests, light);
}) (omega arith)
  where
    stands : (at : ℕ) → 0 < (rank_at ranks at).0 → (best ≡ at) ⊎ ComesBefore (rank_at ranks) best at
    stands at weighs = by (all at weighs)
      where
        by : Contains (best ∷ others) at → (best ≡ at) ⊎ ComesBefore (rank_at ranks) best at
        by (zero, within, is) = inl is
        by (suc k, within, is) = inr (subst (ComesBefore (rank_at ranks) best) is (first 0 (suc k) at (omega arith) within))

-- The first of the offers in order is the best.
pub best_is_first : BestIsFirst
best_is_first ranges offers order are =
    best_by_order (map (merit ranges) offers) order are.best_first (λ at. (are.all at).1) ∙ weighs order (λ at. (are.all at).0)
  where
    weighs : (order : List ℕ) → ((at : ℕ) → Contains order at → 0 < (merit_at ranges offers at).0)
        → first_weighs (map (merit ranges) offers) order ≡ slice_get order 0
    weighs [] all = refl
    weighs (best ∷ others) all = grind (arith, nat_tests, all best (0, omega arith, refl))

-- The first of a ranking is the best, unless it weighs 0.
pub best_is_ranked_first : BestIsRankedFirst
best_is_ranked_first ranges offers ranking is =
    best_by_order (map (merit ranges) offers) is.order is.best_first (λ at weighs. (is.all at).1
    (omega (arith, weighs_within (map (merit ranges) offers) at weighs, length-map offers (merit ranges)))) ∙ rw is.given (said is.order)
  where
    said : (order : List ℕ) → first_weighs (map (merit ranges) offers) order ≡ unwrap_or (option_map
        (λ first. if nat_lt 0 first.weight then Some first.offer else None)
        (slice_get (map (λ at. ranked_as (length ranges) (merit_at ranges offers at) at) order) 0)) None
    said [] = refl
    said (at ∷ order) = refl

-- The best offer passes the test of the best: it weighs more than 0.
pub best_is_acceptable : BestIsAcceptable
best_is_acceptable ranges offers at is =
    let no_offer : MediaType = record { essence = []; slash = 0; plus = None; pairs = []; kept = [] } in
    let all = map (merit ranges) offers in
    let found = position-Some (is_best all) all at lowest is in
    let within : at < length offers = omega (arith, found.0, length-map offers (merit ranges)) in
    let weighs : nat_lt 0 (get_or all at lowest).0 ≡ true = (and_parts (nat_lt 0 _) _ found.1).0 in (
      get_or offers at no_offer,
      slice_get-get_or offers at no_offer within,
      grind (arith, nat_tests, get_or-map (merit ranges) offers at no_offer lowest within, weighs),
    )

-- No offer is the best exactly if every offer weighs 0.
pub none_is_best : NoneIsBest
none_is_best ranges offers = (
  λ none offer there.
      let weighs = all_weigh_0 (map (merit ranges) offers) none there.0 in
      let rank = get_or-map (merit ranges) offers there.0 offer lowest there.1 in grind (arith, rank, weighs, there.2),
  λ all. by_option (best_offer ranges offers) (λ none. none) (λ at found.
      let (offer, is, some) = best_is_acceptable ranges offers at found in
      let there : Contains offers offer = (at, slice_get_within offers at offer is, get_or_from_slice_get offers at offer offer is) in
      absurd (omega (arith, some, all offer there))),
)

-- ---- one order

module _ (Before : ℕ → ℕ → Type 0) (one_way : (x y : ℕ) → Before x y → ¬ (Before y x)) where
  -- Lists in such an order that have the same members begin alike.
  same_first : (x y : ℕ) (order other : List ℕ) → AllPairs Before (x ∷ order) → AllPairs Before (y ∷ other)
      → Contains (y ∷ other) x → Contains (x ∷ order) y → x ≡ y
  same_first x y order other first second (zero, within, is) there = sym is
  same_first x y order other first second (suc k, within, is) (zero, inside, same) = same
  same_first x y order other first second (suc k, within, is) (suc j, inside, same) =
      absurd (one_way x y (subst (Before x) same (first 0 (suc j) y (omega arith) inside))
      (subst (Before y) is (second 0 (suc k) x (omega arith) within)))

  -- What follows the first of such a list isn't the first again.
  after_first : (x : ℕ) (order other : List ℕ) → AllPairs Before (x ∷ order) → (at : ℕ) → Contains order at
      → Contains (x ∷ other) at → Contains other at
  after_first x order other first at (k, within, is) (zero, inside, same) =
      let before : Before x at = subst (Before x) is (first 0 (suc k) at (omega arith) (omega (arith, within))) in
      let itself = subst (Before x) (sym same) before in absurd (one_way x x itself itself)
  after_first x order other first at there (suc j, inside, same) = (j, omega (arith, inside), same)

  -- Lists in such an order that have the same members are the same.
  same_members : (order other : List ℕ) → AllPairs Before order → AllPairs Before other
      → ((at : ℕ) → Contains order at → Contains other at) → ((at : ℕ) → Contains other at → Contains order at)
      → order ≡ other
  same_members [] [] first second here there = refl
  same_members [] (y ∷ other) first second here there = absurd (omega (arith, (there y (0, omega arith, refl)).1))
  same_members (x ∷ order) [] first second here there = absurd (omega (arith, (here x (0, omega arith, refl)).1))
  same_members (x ∷ order) (y ∷ other) first second here there =
      let same = same_first x y order other first second (here x (0, omega arith, refl)) (there y (0, omega arith, refl)) in
      let third : AllPairs Before (x ∷ other) = rw same second in
      let rest = same_members order other (λ i j d before below. first (suc i) (suc j) d (omega (arith, before)) (omega (arith, below)))
      (λ i j d before below. second (suc i) (suc j) d (omega (arith, before)) (omega (arith, below)))
      (λ at is. after_first x order other first at is (rw same (here at (suc is.0, omega (arith, is.1), is.2))))
      (λ at is. after_first x other order third at is (there at (suc is.0, omega (arith, is.1), is.2))) in
      λ i. same i ∷ rest i

-- Of two offers, at most one comes before the other.
one_comes_first : (rank : ℕ → Rank) (x y : ℕ) → ComesBefore rank x y → ¬ (ComesBefore rank y x)
one_comes_first rank x y before after = grind (arith, nat_tests, before, after)

-- The offers that weigh more than 0 have at most one order.
pub one_order : OneOrderOfOffers
one_order ranges offers order other are too =
    same_members (ComesBefore (merit_at ranges offers)) (one_comes_first (merit_at ranges offers)) order other are.best_first too.best_first
    (λ at is. (too.all at).1 ((are.all at).0 is)) (λ at is. (are.all at).1 ((too.all at).0 is))

-- All offers have at most one ranking.
pub one_ranking : OneRanking
one_ranking ranges offers ranking other is too =
    let same = same_members (ComesBefore (merit_at ranges offers)) (one_comes_first (merit_at ranges offers)) is.order too.order
    is.best_first too.best_first (λ at there. (too.all at).1 ((is.all at).0 there)) (λ at there. (is.all at).1 ((too.all at).0 there)) in
    is.given ∙ (ap (map (λ at. ranked_as (length ranges) (merit_at ranges offers at) at)) same ∙ sym too.given)
