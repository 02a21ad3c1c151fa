-- `mime_order` has one outcome, unless memory runs out: offers have one order.
use Rattle.std.proofs.Common.{◌≡◌, ◌≢◌, ℕ, ◌<◌, ◌⊎◌, inl, inr, zero, suc, List, [], ◌∷◌, length, map, refl, subst, arith, ⊎_elim, rules}
use Rattle.std.specs.Prelude.{Contains, ◌↔◌}
use Rattle.std.specs.List.{All, AllPairs}
use Rattle.std.proofs.lemmas.Bool.{cases_lt}
use Rattle.std.proofs.lemmas.Bool.Decides.{nat_tests}
use Rattle.std.proofs.lemmas.List.{length-map}
use Rattle.std.proofs.lemmas.List.Elements.{All-contains, All-cons, All-head, All-nil, All-tail, All-weaker, Contains-get_or}
use Rattle.std.proofs.lemmas.List.Kept.{AllPairs-cons}
use Rattle.mime.specs.Values.{MediaType}
use Rattle.mime_http.specs.Ranges.{Rank, merit, merit_at, ComesBefore, AreInOrder}
use Rattle.mime_http.proofs.HandedOut.{weighs_within, one_order}
use Rattle.mime_c.specs.Strings.{overwritten}
use Rattle.mime_c.specs.Answers.{InRoom, Succeeds}
use Rattle.mime_c.specs.HeaderAnswers.{IsOrder, order_is, none_is_ordered}
use Rattle.mime_c.specs.Laws.{HasOne, OrderIsOne}
use Rattle.mime_c.specs.declared.TheConstants.{MIME_NO_MEMORY, MIME_NOT_ACCEPTABLE}
use Rattle.mime_c.proofs.{OneOutcome.one_success, OneOutcome.one_in_room, HeaderOutcome.one_of_offers, HeaderOutcome.empty_or_not}

-- ---- what a list contains

-- What a list contains is its first element or one of the others.
one_of : {X : Type 0} (x y : X) (xs : List X) → Contains (x ∷ xs) y → (x ≡ y) ⊎ Contains xs y
one_of x y xs is = search rules

-- A list contains its first element.
the_first : {X : Type 0} (x y : X) (xs : List X) → x ≡ y → Contains (x ∷ xs) y
the_first x y xs is = (0, omega arith, is)

-- A list contains its later elements.
a_later : {X : Type 0} (x y : X) (xs : List X) → Contains xs y → Contains (x ∷ xs) y
a_later x y xs (k, within, is) = (suc k, omega (arith, within), is)

-- ---- lists in order, of which the first is before the others, and these are in order

-- The first of a list in order is before all others.
before_rest : {X : Type 0} (R : X → X → Type 0) (x : X) (xs : List X) → AllPairs R (x ∷ xs) → All (R x) xs
before_rest R x xs pairs = λ k d within. pairs 0 (suc k) d (omega arith) (omega (arith, within))

-- A list in order is in order without its first element.
rest_in_order : {X : Type 0} (R : X → X → Type 0) (x : X) (xs : List X) → AllPairs R (x ∷ xs) → AllPairs R xs
rest_in_order R x xs pairs = λ i j d less within. pairs (suc i) (suc j) d (omega (arith, less)) (omega (arith, within))

-- A list in order, with one element more.
module _ {X : Type 0} (R : X → X → Type 0) (goes_on : (x y z : X) → R x y → R y z → R x z) where
  -- A list in order has a place for one element more.
  placed : (x : X) (xs : List X) → AllPairs R xs → All (λ y. R x y ⊎ R y x) xs
      → (ys : List X) × AllPairs R ys × ((z : X) → Contains ys z ↔ ((x ≡ z) ⊎ Contains xs z))
  placed x [] pairs apart = (
    x ∷ [],
    AllPairs-cons R x [] (All-nil (R x)) pairs,
    λ z. (one_of x z [], λ is. ⊎_elim (the_first x z []) (a_later x z []) is),
  )
  placed x (y ∷ xs) pairs apart = ⊎_elim
      (λ first. (
        x ∷ (y ∷ xs),
        AllPairs-cons R x (y ∷ xs)
            (All-cons (R x) y xs first (All-weaker (R y) (R x) (λ z. goes_on x y z first) xs (before_rest R y xs pairs))) pairs,
        λ z. (one_of x z (y ∷ xs), λ is. ⊎_elim (the_first x z (y ∷ xs)) (a_later x z (y ∷ xs)) is),
      ))
      (λ later.
      let rest = placed x xs (rest_in_order R y xs pairs) (All-tail (λ z. R x z ⊎ R z x) y xs apart) in (
        y ∷ rest.0,
        AllPairs-cons R y rest.0
            (λ k d within. ⊎_elim (λ same. subst (R y) same later) (All-contains (R y) xs _ (before_rest R y xs pairs))
            ((rest.2 _).0 (Contains-get_or rest.0 k d within))) rest.1,
        λ z. (
          λ is. ⊎_elim (λ same. inr (the_first y z xs same))
              (λ there. ⊎_elim inl (λ deeper. inr (a_later y z xs deeper)) ((rest.2 z).0 there)) (one_of y z rest.0 is),
          λ is. ⊎_elim (λ same. a_later y z rest.0 ((rest.2 z).1 (inl same)))
              (λ there. ⊎_elim (the_first y z rest.0) (λ deeper. a_later y z rest.0 ((rest.2 z).1 (inr deeper)))
              (one_of y z xs there)) is,
        ),
      ))
      (All-head (λ z. R x z ⊎ R z x) y xs apart)

-- ---- offers

-- An offer before another is before all that the other is before.
goes_on_before : (rank : ℕ → Rank) (x y z : ℕ) → ComesBefore rank x y → ComesBefore rank y z → ComesBefore rank x z
goes_on_before rank x y z before after = grind (arith, nat_tests, before, after)

-- One of two offers is before the other.
one_is_before : (rank : ℕ → Rank) (x y : ℕ) → y < x → ComesBefore rank x y ⊎ ComesBefore rank y x
one_is_before rank x y less = search rules

module _ (ranges offers : List MediaType) where
  -- An offer at a position is before another.
  abbrev Before : ℕ → ℕ → Type 0
  Before = ComesBefore (merit_at ranges offers)

  -- The first offers that weigh something have an order.
  ordered : (n : ℕ) → (order : List ℕ) × AllPairs Before order
      × ((at : ℕ) → Contains order at ↔ ((at < n) × (0 < (merit_at ranges offers at).0)))
  ordered zero = (
    [],
    λ i j d less within. absurd (omega (arith, within)),
    λ at. (λ is. absurd (omega (arith, is.1)), λ is. absurd (omega (arith, is.0))),
  )
  ordered (suc n) =
      let so_far = ordered n in
      ⊎_elim
      (λ weighs.
      let more = placed Before (goes_on_before (merit_at ranges offers)) n so_far.0 so_far.1
      (λ k d within. one_is_before (merit_at ranges offers) n _ ((so_far.2 _).0 (Contains-get_or so_far.0 k d within)).0) in (
        more.0,
        more.1,
        λ at. (
          λ is. ⊎_elim (λ same. (omega (arith, same), subst (λ it. 0 < (merit_at ranges offers it).0) same weighs))
              (λ there. let before = (so_far.2 at).0 there in (omega (arith, before.0), before.1)) ((more.2 at).0 is),
          λ is. (more.2 at).1 (⊎_elim (λ less. inr ((so_far.2 at).1 (less, is.1))) (λ past. inl (omega (arith, past, is.0)))
              (cases_lt at n)),
        ),
      ))
      (λ light. (
        so_far.0,
        so_far.1,
        λ at. (
          λ is. let before = (so_far.2 at).0 is in (omega (arith, before.0), before.1),
          λ is. (so_far.2 at).1 (
            ⊎_elim (λ less. less)
                (λ past. let same : at ≡ n = omega (arith, past, is.0) in
                absurd (omega (arith, light, subst (λ it. 0 < (merit_at ranges offers it).0) same is.1))) (cases_lt at n),
            is.1,
          ),
        ),
      ))
      (cases_lt 0 (merit_at ranges offers n).0)

  -- Offers have an order.
  has_order : (order : List ℕ) × AreInOrder ranges offers order
  has_order =
      let all = ordered (length offers) in (
        all.0,
        record {
          best_first = all.1;
          all = λ at. (
            λ is. ((all.2 at).0 is).1,
            λ weighs. (all.2 at).1 (
              omega (arith, weighs_within (map (merit ranges) offers) at weighs, length-map offers (merit ranges)),
              weighs,
            ),
          );
        },
      )

-- ---- outcomes

module _ (old : List ℕ) (ranges offers : List MediaType) where
  -- No order is the only outcome if no offer is acceptable.
  only_unordered : AreInOrder ranges offers [] → (n : ℕ) (held : List ℕ × ℕ) → n ≢ MIME_NO_MEMORY
      → IsOrder old ranges offers n held → (n ≡ MIME_NOT_ACCEPTABLE) × (held ≡ (old, 0))
  only_unordered none n held some (order_is order _ _ are more is) = absurd (more (one_order ranges offers order [] are none))
  only_unordered none n held some (none_is_ordered too) = (refl, refl)

  -- An order is written if there is room for it.
  abbrev IsPlaced : List ℕ → ℕ → List ℕ × ℕ → Type 0
  IsPlaced order = InRoom (length order) old (old, 0) (Succeeds (overwritten order old, length order))

  -- An order has one outcome in each buffer.
  one_place : (order : List ℕ) → HasOne (IsPlaced order)
  one_place order = one_in_room one_success

  -- An order is the only one.
  only_some : (order : List ℕ) → AreInOrder ranges offers order → order ≢ [] → (n : ℕ) (held : List ℕ × ℕ)
      → n ≢ MIME_NO_MEMORY → IsOrder old ranges offers n held → (n ≡ (one_place order).0) × (held ≡ (one_place order).1)
  only_some order are more n held some (order_is other _ _ too _ is) =
      (one_place order).4 n held some (subst (λ it. IsPlaced it n held) (one_order ranges offers other order too are) is)
  only_some order are more n held some (none_is_ordered none) = absurd (more (one_order ranges offers order [] are none))

  -- Ranges and offers have one order, which there is room for or isn't.
  one_ordering : HasOne (IsOrder old ranges offers)
  one_ordering =
      let order = has_order ranges offers in
      ⊎_elim
      (λ none. let are = subst (AreInOrder ranges offers) none order.1 in
      (_, _, (λ same. omega (arith, same)), none_is_ordered are, only_unordered are))
      (λ more. let has = one_place order.0 in
      (_, _, has.2, order_is order.0 _ _ order.1 more has.3, only_some order.0 order.1 more)) (empty_or_not order.0)

-- `mime_order` has one outcome.
pub order_is_one : OrderIsOne
order_is_one is_there line offers old = one_of_offers is_there line offers (λ at. (old, at)) (one_ordering old)
