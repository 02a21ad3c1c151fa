-- The order of values, with the laws of `Before` and `Same`, and two iterators that std's `eq` compares.
use Rattle.std.proofs.lemmas.Grind.{common_steps}
use Rattle.std.proofs.lemmas.Map.Lookups.{exact_bytes, exact_pairs}
use Rattle.std.proofs.lemmas.Bool.Decides.{same_from_decides}
use Rattle.std.proofs.Common.{arith, length, slice_index, take, zero, suc, ℕ, ◌≡◌, ◌<◌, ◌⊎◌, Bool, true, false, IsTrue, ◌↔◌, List, [], ◌∷◌}
use Rattle.std.proofs.Common.{refl, sym, ap, ◌∙◌, subst, Option, rules}
use Rattle.std.specs.declared.cmp.Ordering.{Ordering}
use Rattle.std.specs.declared.cmp.Ordering.TheVariants.{Less, Equal, Greater}
use Rattle.std.specs.Cmp.{IsTotalOrder, tied_itself, nat_cmp_total}
use Rattle.std.specs.FinMap.{IsAntisymmetric, nat_cmp-IsAntisymmetric}
use Rattle.std.specs.Cmp.Lexicographic.{slice_cmp, nat_list_cmp_total}
use Rattle.std.specs.Ordering.{MatchOrdering, nat_cmp, ordering_then, is_eq, eq_by_cmp, ordering_reverse}
use Rattle.std.specs.Iterator.{YieldsFirstBy, YieldsThen, ComparesItemsByEq}
use Rattle.std.specs.List.{AllZip}
use Rattle.mime.specs.Values.{MediaType}
use Rattle.mime.specs.Comparison.{Same, IsListBefore, IsTextBefore, IsPairBefore, Before, pair_cmp, media_cmp, IsOrderOf}
use Rattle.mime.specs.Laws.{OneOrder}
use Rattle.mime.specs.Inner.OrderLaws.{same_from_cmp, media_cmp_total}
use Rattle.std.specs.Prelude.{MatchOption, IfSome}
use Rattle.mime.proofs.BytesLemmas.{cons_parts}
use Rattle.mime_search.specs.Differences.{DifferAt}

-- an order finds one thing less than a second one exactly if the first is before it, and finds them equal exactly if they are the same
abbrev Finds : {X : Type 0} → (X → X → Ordering) → (X → X → Type 0) → Type 0
Finds {X} cmp IsLess = (x y : X) → (cmp x y ≡ Less) ↔ IsLess x y

abbrev Exact : {X : Type 0} → (X → X → Ordering) → Type 0
Exact {X} cmp = (x y : X) → (cmp x y ≡ Equal) ↔ (x ≡ y)

-- A total antisymmetric order finds things equal exactly if they are the same.
exact : {X : Type 0} {cmp : X → X → Ordering} → IsTotalOrder cmp → IsAntisymmetric cmp → Exact cmp
exact {cmp = cmp} total same x y = (same x y, λ is. ap (cmp x) (sym is) ∙ tied_itself total x)

-- What two orders find, one after the other.
finds_then : {X : Type 0} (x y : X) (P Q : Type 0) (a b : Ordering) → (a ≡ Less) ↔ P → (a ≡ Equal) ↔ (x ≡ y)
    → (b ≡ Less) ↔ Q → (ordering_then a b ≡ Less) ↔ (P ⊎ ((x ≡ y) × Q))
finds_then x y P Q a b less equal rest = search rules

-- The order of lists finds less what is before, if that of their items does.
finds_lists : {X : Type 0} (cmp : X → X → Ordering) (IsLess : X → X → Type 0) → Finds cmp IsLess → Exact cmp
    → Finds (slice_cmp cmp) (IsListBefore IsLess)
finds_lists cmp IsLess finds exact [] [] = (λ is. absurd cc, λ before. absurd before)
finds_lists cmp IsLess finds exact [] (y ∷ ys) = (λ _. tt, λ _. refl)
finds_lists cmp IsLess finds exact (x ∷ xs) [] = (λ is. absurd cc, λ before. absurd before)
finds_lists cmp IsLess finds exact (x ∷ xs) (y ∷ ys) =
    finds_then x y _ _ (cmp x y) (slice_cmp cmp xs ys) (finds x y) (exact x y) (finds_lists cmp IsLess finds exact xs ys)

-- The orders of bytes, of texts, of pairs and of values find which is before.
finds_bytes : Finds nat_cmp (λ x y. x < y)
finds_bytes x y = grind (arith, common_steps)

-- The order of texts finds which text is before.
finds_texts : Finds (slice_cmp nat_cmp) IsTextBefore
finds_texts = finds_lists nat_cmp (λ x y. x < y) finds_bytes (exact nat_cmp_total nat_cmp-IsAntisymmetric)

-- The order of texts finds texts equal exactly if they are the same.
exact_texts : Exact (slice_cmp nat_cmp)
exact_texts = exact nat_list_cmp_total exact_bytes

-- The order of pairs finds which pair is before.
finds_pairs : Finds pair_cmp IsPairBefore
finds_pairs x y = search (finds_then, finds_texts, exact_texts, rules)

-- The order of media types finds which is before.
finds_media : (x y : MediaType) → (media_cmp x y ≡ Less) ↔ Before x y
finds_media x y = search (exact, finds_then, finds_lists, finds_texts, exact_texts, finds_pairs, exact_bytes, exact_pairs, rules)

-- What the order of values says: the first is before the second, they are equal, or the second is before the first.
pub tells_media : (x y : MediaType) → MatchOrdering (media_cmp x y) (Before x y) (Same x y) (Before y x)
tells_media x y = go (media_cmp x y) refl
  where
    go : (o : Ordering) → media_cmp x y ≡ o → MatchOrdering o (Before x y) (Same x y) (Before y x)
    go Less is = (finds_media x y).0 is
    go Equal is = same_from_cmp x y (ap is_eq is)
    go Greater is = (finds_media y x).0 (media_cmp_total.antisymm y x ∙ ap ordering_reverse is)

-- An answer that is the order's says which value is before.
pub tells_answer : (x y : MediaType) (answer : Ordering) → answer ≡ media_cmp x y
    → MatchOrdering answer (Before x y) (Same x y) (Before y x)
tells_answer x y answer is = subst (λ order. MatchOrdering order (Before x y) (Same x y) (Before y x)) (sym is) (tells_media x y)

-- Equal values are equal to the order.
pub equal-media : (x y : MediaType) → Same x y → media_cmp x y ≡ Equal
equal-media x y same = cc (same.0, same.1, tied_itself media_cmp_total y)

-- A value before one that is before a third is before the third.
pub Before-transitive : (x y z : MediaType) → Before x y → Before y z → Before x z
Before-transitive x y z first second =
    subst (λ o. MatchOrdering o (Before x z) (Same x z) (Before z x))
    (media_cmp_total.trans x y z ((finds_media x y).1 first) ((finds_media y z).1 second)) (tells_media x z)

-- Two values are equal exactly if the order finds them equal.
pub eq_by_cmp-tells : (x y : MediaType) → IsTrue (eq_by_cmp media_cmp x y) ↔ Same x y
eq_by_cmp-tells x y = (same_from_cmp x y, λ same. ap is_eq (equal-media x y same))

-- A test that holds exactly of equal values answers as the order does.
pub eq_by_cmp-same : (x y : MediaType) (answer : Bool) → IsTrue answer ↔ Same x y → answer ≡ eq_by_cmp media_cmp x y
eq_by_cmp-same x y answer tells = same_from_decides answer (eq_by_cmp media_cmp x y) tells (eq_by_cmp-tells x y)

-- The order of two values is the one answer that says which is before.
pub one_order : OneOrder
one_order x y = (media_cmp x y, tells_media x y, go)
  where
    go : (other : Ordering) → IsOrderOf x y other → other ≡ media_cmp x y
    go Less says = sym ((finds_media x y).1 says)
    go Equal says = sym (equal-media x y says)
    go Greater says = sym (media_cmp_total.antisymm x y ∙ ap ordering_reverse ((finds_media y x).1 says))

-- An order that isn't equal is decided.
decided : (order rest : Ordering) → ¬ (order ≡ Equal) → ordering_then order rest ≡ order
decided order rest some = search rules

-- Texts are ordered by the bytes at which they first differ.
pub ordered_by_difference : (xs ys : List ℕ) (k : ℕ) → k < length xs → k < length ys → DifferAt xs ys 0 k
    → slice_cmp nat_cmp xs ys ≡ nat_cmp (slice_index xs k) (slice_index ys k)
ordered_by_difference [] ys k within also differ = absurd (omega (arith, within))
ordered_by_difference (x ∷ xs) [] k within also differ = absurd (omega (arith, also))
ordered_by_difference (x ∷ xs) (y ∷ ys) zero within also differ =
    decided (nat_cmp x y) (slice_cmp nat_cmp xs ys) (λ same. differ.differ ((exact nat_cmp_total nat_cmp-IsAntisymmetric x y).0 same))
ordered_by_difference (x ∷ xs) (y ∷ ys) (suc k) within also differ =
    rw ((exact nat_cmp_total nat_cmp-IsAntisymmetric x y).1 (differ.equal_before 0 (omega arith) (omega arith)))
    (ordered_by_difference xs ys k (omega (arith, within)) (omega (arith, also)) (record {
      least = omega arith;
      equal_before = λ j least before. differ.equal_before (suc j) (omega arith) (omega (arith, before));
      differ = differ.differ;
    }))

-- Beginnings that have the bytes at which two texts differ differ there, too.
pub differ_in_beginnings : (text other : List ℕ) (n m at : ℕ) → at < n → at < m → DifferAt text other 0 at
    → DifferAt (take n text) (take m other) 0 at
differ_in_beginnings text other n m at within also differ = grind (arith, common_steps)

-- Values whose essences differ are ordered by the bytes at which these first differ.
pub ordered_by_essence : (x y : MediaType) (at : ℕ) → at < length x.essence → at < length y.essence
    → DifferAt x.essence y.essence 0 at → media_cmp x y ≡ nat_cmp (slice_index x.essence at) (slice_index y.essence at)
ordered_by_essence x y at within also differ = search (exact, decided, ordered_by_difference, rules)

module _ {A B : Type 0} (seen : A → B) (eq : A → A → Bool) (agrees : (x y : A)
    → IsTrue (eq x y) ↔ (seen x ≡ seen y)) (r : Bool) where
  abbrev Steps : List B → Option A → List B → Type 0
  Steps = YieldsFirstBy seen (λ items. items)

  -- what the answer says of the first items that aren't equal
  abbrev Last : Option A → Option A → Type 0
  Last o p = MatchOption o (MatchOption p (r ≡ true) (λ _. r ≡ false)) (λ x. (r ≡ false) × IfSome p (λ y. eq x y ≡ false))

  -- The first items that aren't equal decide whether the lists are the same.
  at_last : (o p : Option A) (s t u w : List B) → Steps s o u → Steps t p w → Last o p → IsTrue r ↔ (s ≡ t)
  at_last o p s t u w one other last = search rules

  -- Equal items before the first that aren't equal don't change whether the lists are the same.
  along : (xs ys : List A) (o p : Option A) (s t u w : List B) → YieldsThen Steps s xs o u → YieldsThen Steps t ys p w
      → AllZip (λ x y. eq x y ≡ true) xs ys → Last o p → IsTrue r ↔ (s ≡ t)
  along [] [] o p s t u w a b zip last =
      at_last o p s t u w (subst (λ j. Steps j o u) (sym a.1) a.2) (subst (λ j. Steps j p w) (sym b.1) b.2) last
  along (x ∷ xs) (y ∷ ys) o p s t u w a b zip last =
      let first = (agrees x y).0 zip.0 in
      let rest = along xs ys o p a.1.0 b.1.0 u w (a.0, a.1.2, a.2) (b.0, b.1.2, b.2) zip.1 last in
      (λ yes. a.1.1 ∙ cc (first, rest.0 yes) ∙ sym b.1.1, λ same. rest.1 (cons_parts (sym a.1.1 ∙ same ∙ b.1.1)).1)
  along xs ys o p s t u w a b zip last = absurd zip

  -- A comparison of items decides whether the lists are the same.
  pub same_items : (s t : List B) → ComparesItemsByEq Steps (λ x y. y ≡ x) Steps s t eq r → IsTrue r ↔ (s ≡ t)
  same_items s t d = along d.1 d.2 d.3 d.4 s t d.5 d.6 d.8 (subst (λ j. YieldsThen Steps j d.2 d.4 d.6) d.7 d.9) d.10 d.11
