-- The highest of ranks: which one a fold keeps, as the closest range's, and where it stands first, as the best offer's.
use Rattle.std.proofs.Common.{rules}
use Rattle.mime_http.proofs.Common.{All, All-contains, AllPass-from_list_all, list_any, list_any_at, cases_Bool, suc, Bool}
use Rattle.mime_http.proofs.Common.{ClosestIsClosest, Contains, Contains-append_right, Equal, IsTotalOrder, List, MediaType, None, Option}
use Rattle.mime_http.proofs.Common.{Ordering, Rank, Some, [], and_from, ap, arith, by_option, cases_lt, closeness, closest, enumerate_from}
use Rattle.mime_http.proofs.Common.{false, filter_map, find, fold, get_or, get_or-map, get_or_default, get_or_past, inl, inr, is_gt, is_le}
use Rattle.mime_http.proofs.Common.{is_lt, length, length-map, list_all, list_all-from_AllPass, map, nat_cmp_total, nat_lt, nat_tests}
use Rattle.mime_http.proofs.Common.{none-some, on_total, option_cmp, ord_max, position, position_or_len, position_or_len_is, rank_cmp, refl}
use Rattle.mime_http.proofs.Common.{same_Some, subst, sym, then_total, true, true≢false, zero, ℕ, ⊎_elim, ◌&&◌, ◌+◌, ◌<◌, ◌∙◌, ◌∷◌, ◌≡◌}
use Rattle.mime_http.proofs.Common.{◌≤◌, ◌⊎◌}
use Rattle.std.{proofs.lemmas.Cmp.upto, proofs.lemmas.List.Elements.All-cons, proofs.lemmas.List.Elements.All-nil}
use Rattle.std.{proofs.lemmas.List.Folds.list_all_at, proofs.lemmas.Bool.and_right, proofs.lemmas.Bool.and_left}
use Rattle.std.{proofs.lemmas.Bool.cases_cond, specs.Cmp.Lexicographic.options_total}
use Rattle.std.specs.Ordering.{ordering_reverse}
use Rattle.std.specs.declared.cmp.Ordering.TheVariants.{Less, Greater}
use borrow.Author.Count.{below_more}

-- The value of an item's value is the one at its position.
pub value_at : {X Y Z : Type 0} (f : Y → Z) (g : X → Y) (xs : List X) (i : ℕ) (x : X) (d : Z) → i < length xs
    → x ≡ get_or xs i x → f (g x) ≡ get_or (map f (map g xs)) i d
value_at f g xs i x d within is = grind (arith, is, get_or-map f (map g xs) i (g x) d, get_or-map g xs i x (g x), length-map xs g)

-- The first place of what passes is the same in what is mapped.
pub position-map : {X Y : Type 0} (p : Y → Bool) (f : X → Y) (xs : List X) → position p (map f xs) ≡ position (λ x. p (f x)) xs
position-map {X} p f xs = rw (first xs, length-map xs f) refl
  where
    first : (xs : List X) → position_or_len p (map f xs) ≡ position_or_len (λ x. p (f x)) xs
    first [] = refl
    first (x ∷ xs) = grind (arith, first xs)

-- ---- ranks

-- This is the rank of what weighs nothing.
abbrev pub lowest : Rank
lowest = (0, 0, 0, 0)

-- This is the rank of an offer.
abbrev pub rank_at : List Rank → ℕ → Rank
rank_at ranks at = get_or ranks at lowest

-- Ranks that compare as equal have equal parts.
pub one_rank : (x y : Rank) → rank_cmp x y ≡ Equal → x ≡ y
one_rank x y same = grind (arith, nat_tests)

-- Ranks are in a total order, and so are those that may be missing.
pub ranks_total : IsTotalOrder rank_cmp
ranks_total = search (then_total, on_total, nat_cmp_total, rules)

abbrev cmp : Option Rank → Option Rank → Ordering
cmp = option_cmp rank_cmp

-- One isn't above another.
abbrev NotAbove : Option Rank → Option Rank → Type 0
NotAbove top one = is_gt (cmp one top) ≡ false

-- What is not above a second rank, which is not above a third, is not above the third.
up_to : (x y z : Option Rank) → NotAbove y x → NotAbove z y → NotAbove z x
up_to = upto (options_total ranks_total)

-- ---- the highest that a fold keeps

-- The top is the first or one of these, and none is above it.
record IsTop {X : Type 0} (f : X → Option Rank) (first : Option Rank) (xs : List X) (top : Option Rank) : Type 0 where
  among : (top ≡ first) ⊎ ((x : X) × Contains xs x × (f x ≡ top))
  least : NotAbove top first
  above : All (λ x. NotAbove top (f x)) xs

-- What a fold keeps is the top of the first and the others.
top_of : {X : Type 0} (f : X → Option Rank) (first : Option Rank) (xs : List X) → IsTop f first xs (fold (ord_max cmp) first (map f xs))
top_of f first [] = record { among = inl refl; least = grind (arith, nat_tests); above = All-nil _ }
top_of f first (x ∷ xs) =
    let next = ord_max cmp first (f x) in
    let is = top_of f next xs in
    let top = fold (ord_max cmp) next (map f xs) in
    record {
      among = ⊎_elim (λ same. ⊎_elim (λ old. inl (same ∙ old)) (λ new. inr (x, (0, omega arith, refl), sym (same ∙ new)))
          (cases_cond (is_lt (cmp (f x) first)) first (f x) next refl))
          (λ found. inr (found.0, Contains-append_right (x ∷ []) xs found.0 found.1, found.2)) is.among;
      least = up_to first next top (grind (arith, nat_tests)) is.least;
      above = All-cons (λ x. NotAbove top (f x)) x xs (up_to (f x) next top (grind (arith, nat_tests)) is.least) is.above;
    }

-- A fold keeps the same if what has no rank is left out before.
folded : {X : Type 0} (f : X → Option Rank) (first : Option Rank) (xs : List X)
    → fold (ord_max cmp) first (map Some (filter_map f xs)) ≡ fold (ord_max cmp) first (map f xs)
folded f first [] = refl
folded f first (x ∷ xs) = grind (arith, folded f first xs, folded f (ord_max cmp first (f x)) xs)

-- This says whether no other rank is above one.
abbrev pub is_low : Rank → Rank → Bool
is_low one other = is_le (rank_cmp other one)

abbrev pub is_top : List Rank → Rank → Bool
is_top all one = list_all (is_low one) all

-- One that passes is found, if no other passes.
find_one : {X : Type 0} (p : X → Bool) (xs : List X) (x : X) → list_any p xs ≡ true → All (λ y. p y ≡ true → y ≡ x) xs
    → find p xs ≡ Some x
find_one p [] x some one = absurd cc
find_one p (y ∷ xs) x some one =
    ⊎_elim (λ passes. rw passes (ap Some (one 0 y (omega arith) passes)))
    (λ fails. rw fails (find_one p xs x (rw fails at some) (λ k d within. one (suc k) d (omega (arith, within))))) (cases_Bool (p y))

-- What isn't greater is less or equal.
at_most : (order : Ordering) → is_gt order ≡ false → is_le order ≡ true
at_most Less is = refl
at_most Equal is = refl
at_most Greater is = absurd (true≢false is)

-- What isn't greater is equal, if its reverse isn't greater either.
equal_both_ways : (order other : Ordering) → order ≡ ordering_reverse other → is_gt order ≡ false → is_le other ≡ true
    → order ≡ Equal
equal_both_ways Less other reverse low high = grind (arith, reverse, high)
equal_both_ways Equal other reverse low high = refl
equal_both_ways Greater other reverse low high = absurd (true≢false low)

-- The highest is the one that none is above.
found_top : (all : List Rank) → find (is_top all) all ≡ fold (ord_max cmp) None (map Some all)
found_top [] = refl
found_top (rank ∷ ranks) = by (fold (ord_max cmp) None (map Some all)) (top_of Some None all)
  where
    all : List Rank
    all = rank ∷ ranks

    by : (top : Option Rank) → IsTop Some None all top → find (is_top all) all ≡ top
    by None is = absurd (true≢false (is.above 0 rank (omega arith)))
    by (Some top) is =
        let found : (x : Rank) × Contains all x × (Some x ≡ Some top) = ⊎_elim (λ none. absurd cc) (λ found. found) is.among in
        let (k, within, there) : Contains all top = rw (same_Some _ _ found.2) at found.1 in
        let top_passes = list_all-from_AllPass (is_low top) all (λ j d inside.
        at_most (rank_cmp (get_or all j d) top) (is.above j d inside)) in
        find_one (is_top all) all top (list_any_at (is_top all) all k top within (ap (is_top all) there ∙ top_passes))
        (λ j d inside passes.
        let high = rw there at (AllPass-from_list_all (is_low (get_or all j d)) all passes k top within) in
        one_rank _ top (equal_both_ways _ _ (ranks_total.antisymm (get_or all j d) top) (is.above j d inside) high))

-- ---- the closest range

-- The range that a fold over the ranges keeps is the closest.
pub closest_is_kept : (ranges : List MediaType) (offer : MediaType)
    → fold (ord_max cmp) None (map (closeness offer) (enumerate_from 0 ranges)) ≡ closest ranges offer
closest_is_kept ranges offer = search (folded, found_top, rules)

-- No other range is closer than the closest.
pub closest_is_closest : ClosestIsClosest
closest_is_closest ranges offer =
    let items = enumerate_from 0 ranges in
    let is = subst (IsTop (closeness offer) None items) (closest_is_kept ranges offer) (top_of (closeness offer) None items) in
    let low = λ (item : ℕ × MediaType). All-contains (λ item. NotAbove (closest ranges offer) (closeness offer item)) items
    item is.above in
    by_option (closest ranges offer) (λ none. rw none (λ item there. grind (arith, nat_tests, low item there, none)))
    (λ close found. rw found (
      ⊎_elim (λ none. absurd cc) (λ found. found) (rw found at is.among),
      λ item other there covers. grind (arith, nat_tests, low item there, found, covers),
    ))

-- ---- the best offer

-- This says whether a rank is the best: no other is above it, and it weighs more than 0.
abbrev pub is_best : List Rank → Rank → Bool
is_best all one = nat_lt 0 one.0 && is_top all one

-- This says whether a rank is above another.
abbrev pub beats : Rank → Rank → Bool
beats one other = is_gt (rank_cmp one other)

-- What is above one rank is above what isn't.
above_both : (x y z : Rank) → beats x y ≡ true → beats z y ≡ false → beats x z ≡ true
above_both x y z above low = grind (arith, nat_tests)

-- Of the ranks before a position that weigh something, none is above the highest, which has a first place, or weighs nothing.
pub record IsHighest (ranks : List Rank) (at : ℕ) (most : Rank) (best : Option ℕ) : Type 0 where
  pub above : (j : ℕ) → j < at → 0 < (rank_at ranks j).0 → beats (rank_at ranks j) most ≡ false
  pub first : 0 < most.0 → (place : ℕ) × (best ≡ Some place) × (rank_at ranks place ≡ most)
      × ((j : ℕ) → j < place → 0 < (rank_at ranks j).0 → beats most (rank_at ranks j) ≡ true)
  pub none : most.0 ≡ 0 → best ≡ None

module _ {ranks : List Rank} {at : ℕ} {most : Rank} {best : Option ℕ} (x : Rank) (was : IsHighest ranks at most best)
    (next : x ≡ rank_at ranks at) where
  -- A rank above the highest is the new highest, and stands last.
  pub highest_raised : 0 < x.0 → beats x most ≡ true → IsHighest ranks (at + 1) x (Some at)
  highest_raised heavy higher =
      let beaten = λ (j : ℕ) (less : j < at) (some : 0 < (rank_at ranks j).0). above_both x most _ higher (was.above j less some) in
      record {
        above = below_more (λ j. 0 < (rank_at ranks j).0 → beats (rank_at ranks j) x ≡ false) at
            (λ j less some. grind (arith, nat_tests, beaten j less some)) (λ _. rw (sym next) (grind (arith, nat_tests)));
        first = λ _. (at, refl, sym next, beaten);
        none = λ light. absurd (omega (arith, heavy, light));
      }

  -- Beside a rank that isn't above it, the highest stays.
  pub highest_stays : (0 < x.0 → beats x most ≡ false) → IsHighest ranks (at + 1) most best
  highest_stays low = record {
    above = below_more (λ j. 0 < (rank_at ranks j).0 → beats (rank_at ranks j) most ≡ false) at was.above (rw (sym next) low);
    first = was.first;
    none = was.none;
  }

-- The best offer stands where the highest of all ranks is first.
pub best_is_found : {all : List Rank} {at : ℕ} {most : Rank} {best : Option ℕ} → IsHighest all at most best → length all ≤ at
    → position (is_best all) all ≡ best
best_is_found {all} {at} {most} {best} is past =
    let light = λ (j : ℕ) (none : (rank_at all j).0 ≤ 0). and_left (nat_lt 0 (rank_at all j).0) (is_top all (rank_at all j))
    (grind (arith, nat_tests)) in
    ⊎_elim (λ some.
    let (place, same, there, before) = is.first some in
    let within : place < length all = grind (arith, some, there, get_or_past all place lowest) in
    let found = position_or_len_is (is_best all) all place lowest (omega (arith, within)) (λ j less. ⊎_elim (λ heavy.
    and_right _ _ (list_all_at (is_low (rank_at all j)) all place lowest within (grind (arith, nat_tests, there, before j less heavy))))
    (light j) (cases_lt 0 (rank_at all j).0))
    (λ _. and_from _ _ (grind (arith, nat_tests, there, some)) (list_all-from_AllPass (is_low (rank_at all place)) all (λ k d less.
    rw (get_or_default all k d lowest less, there) (grind (arith, nat_tests, is.above k (omega (arith, past, less)), some))))) in
    grind (arith, nat_tests, found, same, within, some))
    (λ none.
    let found = position_or_len_is (is_best all) all (length all) lowest (omega arith)
    (λ j less. light j (grind (arith, nat_tests, is.above j (omega (arith, past, less)), none))) (λ less. absurd (omega (arith, less))) in
    grind (arith, nat_tests, found, is.none (omega (arith, none)))) (cases_lt 0 most.0)

-- ---- no best offer

-- The ranks before a position have a highest.
abbrev HasHighest : List Rank → ℕ → Type 0
HasHighest ranks at = (most : Rank) × (best : Option ℕ) × IsHighest ranks at most best

-- The ranks before each position have a highest.
highest_of : (ranks : List Rank) (at : ℕ) → HasHighest ranks at
highest_of ranks zero = (
  lowest,
  None,
  record { above = λ j less. absurd (omega (arith, less)); first = λ some. absurd (omega (arith, some)); none = λ _. refl },
)
highest_of ranks (suc at) =
    let (most, best, was) = highest_of ranks at in
    let x = rank_at ranks at in
    let raised_or_not : HasHighest ranks (at + 1) =
    ⊎_elim (λ heavy. ⊎_elim (λ higher. (x, Some at, highest_raised x was refl heavy higher))
    (λ low. (most, best, highest_stays x was refl (λ _. low))) (cases_Bool (beats x most)))
    (λ light. (most, best, highest_stays x was refl (λ heavy. absurd (omega (arith, heavy, light))))) (cases_lt 0 x.0) in
    subst (HasHighest ranks) (omega arith) raised_or_not

-- Each rank weighs 0 if none is the best.
pub all_weigh_0 : (all : List Rank) → position (is_best all) all ≡ None → (at : ℕ) → (rank_at all at).0 ≡ 0
all_weigh_0 all none at =
    let (most, best, is) = highest_of all (length all) in
    let same = best_is_found is (omega arith) in
    let light : most.0 ≡ 0 = ⊎_elim (λ some. let found = is.first some in absurd (none-some found.0 (sym none ∙ (same ∙ found.1))))
    (λ zero. omega (arith, zero)) (cases_lt 0 most.0) in
    ⊎_elim (λ within. grind (arith, nat_tests, light, is.above at within)) (λ past. grind (arith, get_or_past all at lowest, past))
    (cases_lt at (length all))
