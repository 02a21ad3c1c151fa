-- Texts that are compared block by block: bits taken together, and blocks that overlap.
use Rattle.std.proofs.Common.{◌≡◌, ◌↔◌, ℕ, ◌-◌, ◌≤◌, List, ◌++◌, length, zero-add, take, drop, bit_or, sym, ap, ◌∙◌, arith, ◌≢◌, suc, ◌+◌}
use Rattle.std.proofs.Common.{◌<◌, Bool, true, false, cond, [], ◌∷◌, set, get_or, refl, subst, length-drop, rules}
use Rattle.std.specs.{List.range_with_len, List.list_all, List.position_or_len, Option.is_some, Char.to_ascii_lowercase, Simd.Lanes.zip2}
use Rattle.std.proofs.lemmas.List.FromFn.{get_or-range_with_len}
use Rattle.std.proofs.lemmas.List.{length-map, take-map, drop-map, take-append-drop, take_rest, take-take, take_more, take_more_set}
use Rattle.std.proofs.lemmas.List.{length-take-le, get_or-take, get_or-drop, get_or-map}
use Rattle.std.proofs.lemmas.Nat.{le_or_l, le_or_r}
use Rattle.std.proofs.Math.Seq.{take-add}
use Rattle.std.proofs.lemmas.Bool.{eqb-true, eq-eqb}
use Rattle.std.proofs.lemmas.Bool.Decides.{nat_tests}
use Rattle.std.proofs.lemmas.List.Sums.{AllPass-from_list_all, prefix_len-le-length, prefix_len_stops}
use Rattle.std.proofs.lemmas.Simd.{length-zip2, get_or-zip2}
use Rattle.std.specs.Prelude.{◌==◌, not, Option, None, Some, IfSome, IsTrue}
use Rattle.mime_search.specs.Differences.{difference_bit}
use Rattle.mime_search.specs.IgnoringCase.{lowered, FirstDifference}

-- What holds of all bytes holds of each.
pub at_byte : (p : ℕ → Bool) (b : ℕ) → b < 256 → list_all p (range_with_len 0 256) ≡ true → p b ≡ true
at_byte p b within all =
    subst (λ x. p x ≡ true) (get_or-range_with_len 0 256 b 0 within ∙ zero-add b)
    (AllPass-from_list_all p (range_with_len 0 256) all b 0 within)

-- A lowercased text keeps its length.
pub length-lowered : (text : List ℕ) → length (lowered text) ≡ length text
length-lowered text = length-map text to_ascii_lowercase

-- The text before a position is lowercased by itself.
pub lowered-take : (n : ℕ) (text : List ℕ) → lowered (take n text) ≡ take n (lowered text)
lowered-take n text = sym (take-map to_ascii_lowercase n text)

-- The text after a position is lowercased by itself.
pub lowered-drop : (n : ℕ) (text : List ℕ) → lowered (drop n text) ≡ drop n (lowered text)
lowered-drop n text = sym (drop-map to_ascii_lowercase n text)

-- the position of the first 1, or the length
abbrev pub first_bit_of : List ℕ → ℕ
first_bit_of bits = position_or_len (λ b. b == 1) bits

-- Two numbers have no bit together exactly if neither has one.
pub together : (n m : ℕ) (P Q Whole : Type 0) → (n ≡ 0) ↔ P → (m ≡ 0) ↔ Q → (P → Q → Whole) → (Whole → P × Q)
    → (bit_or n m ≡ 0) ↔ Whole
together n m P Q Whole first second whole parts = search (le_or_l, le_or_r, rules)

-- The last bytes of a text are lowercased as in the whole text.
pub lowered_rest : (text : List ℕ) (from : ℕ) → lowered (take (length text - from) (drop from text)) ≡ drop from (lowered text)
lowered_rest text from = ap lowered (take_rest text from) ∙ lowered-drop from text

-- Prefixes that are the same have the same shorter prefixes.
pub shorter : (a b : List ℕ) (n m : ℕ) → n ≤ m → take m a ≡ take m b → take n a ≡ take n b
shorter a b n m less same = sym (take-take n m a less) ∙ ap (take n) same ∙ take-take n m b less

-- Texts that are the same up to a position, and from there or before on, are the same.
pub lapped : (a b : List ℕ) (n last : ℕ) → last ≤ n → take n a ≡ take n b → drop last a ≡ drop last b → a ≡ b
lapped a b n last after prefix back =
    sym (take-append-drop last a) ∙ (λ i. shorter a b last n after prefix i ++ back i) ∙ take-append-drop last b

-- One more pair adds one more bit.
zip2_push : (f : ℕ → ℕ → ℕ) (xs ys : List ℕ) (x y : ℕ) → length xs ≡ length ys
    → zip2 f (xs ++ (x ∷ [])) (ys ++ (y ∷ [])) ≡ zip2 f xs ys ++ (f x y ∷ [])
zip2_push f [] [] x y long = refl
zip2_push f (a ∷ xs) (b ∷ ys) x y long = ap (λ rest. f a b ∷ rest) (zip2_push f xs ys x y (omega (arith, long)))
zip2_push f xs ys x y long = absurd (omega (arith, long))

-- One more bit is found by one more pair of bytes.
pub one_more : (f : ℕ → ℕ → ℕ) (a b bits : List ℕ) (n : ℕ) → n < length a → n < length b → n < length bits
    → take n bits ≡ zip2 f (take n a) (take n b)
    → take (n + 1) (set bits n (f (get_or a n 0) (get_or b n 0))) ≡ zip2 f (take (n + 1) a) (take (n + 1) b)
one_more f a b bits n room other_room within so_far =
    take_more_set bits n (f (get_or a n 0) (get_or b n 0)) within ∙ ap (λ t. t ++ (f (get_or a n 0) (get_or b n 0) ∷ [])) so_far
    ∙ sym (ap (λ t. zip2 f t (take (n + 1) b)) (take_more a n 0 room) ∙ ap (zip2 f _) (take_more b n 0 other_room)
    ∙ zip2_push f (take n a) (take n b) (get_or a n 0) (get_or b n 0)
    (omega (arith, length-take-le n a, length-take-le n b, room, other_room)))

-- The texts are the same up to the first bit, ignoring ASCII case.
equal_to_bit : (xs ys : List ℕ)
    → take (first_bit_of (zip2 difference_bit xs ys)) (lowered xs) ≡ take (first_bit_of (zip2 difference_bit xs ys)) (lowered ys)
equal_to_bit [] ys = refl
equal_to_bit (x ∷ xs) [] = refl
equal_to_bit (x ∷ xs) (y ∷ ys) = go (to_ascii_lowercase x == to_ascii_lowercase y) refl (equal_to_bit xs ys)
  where
    go : (same : Bool) → (to_ascii_lowercase x == to_ascii_lowercase y) ≡ same
        → take (first_bit_of (zip2 difference_bit xs ys)) (lowered xs) ≡ take (first_bit_of (zip2 difference_bit xs ys)) (lowered ys)
        → take (first_bit_of (cond same 0 1 ∷ zip2 difference_bit xs ys)) (lowered (x ∷ xs))
        ≡ take (first_bit_of (cond same 0 1 ∷ zip2 difference_bit xs ys)) (lowered (y ∷ ys))
    go true is rest =
        let n = first_bit_of (zip2 difference_bit xs ys) in
        let next : 1 + n ≡ suc n = omega arith in
        let byte = eqb-true (to_ascii_lowercase x) (to_ascii_lowercase y) is in
        rw next (λ i. byte i ∷ rest i)
    go false is rest = refl

-- A bit is 0 exactly if the bytes are the same ignoring ASCII case.
pub no_bit_at : (x y found : ℕ) → found ≡ difference_bit x y → (found ≡ 0) ↔ (to_ascii_lowercase x ≡ to_ascii_lowercase y)
no_bit_at x y found is = (λ none. grind (arith, nat_tests), λ same. is ∙ ap (λ b. cond b 0 1) (eq-eqb _ _ same))

-- If a bit is 1, they differ.
differ_at_bit : (x y : ℕ) → difference_bit x y ≡ 1 → to_ascii_lowercase x ≢ to_ascii_lowercase y
differ_at_bit x y is same = absurd (omega (arith, sym is ∙ ap (λ b. cond b 0 1) (eq-eqb _ _ same)))

-- in the first 16 bytes, as the first bit shows it
module _ (a b bits : List ℕ) (at : ℕ) (room : 16 ≤ length a) (other_room : 16 ≤ length b)
    (is : bits ≡ zip2 difference_bit (take 16 a) (take 16 b)) (first : at ≡ first_bit_of bits) where
  -- There are 16 bits.
  bit_count : length bits ≡ 16
  bit_count =
      ap length is ∙ length-zip2 difference_bit (take 16 a) (take 16 b) (length-take-le 16 a room
      ∙ sym (length-take-le 16 b other_room)) ∙ length-take-le 16 a room

  -- The first bit is among the 16.
  few : at ≤ 16
  few = omega (arith, first, bit_count, prefix_len-le-length (λ b. not (b == 1)) bits)

  -- The bytes before the first bit are equal ignoring ASCII case.
  same_before : take at (lowered a) ≡ take at (lowered b)
  same_before =
      sym (shorter a) ∙ ap (λ m. take m (lowered (take 16 a))) (first ∙ ap (first_bit_of) is) ∙ equal_to_bit (take 16 a) (take 16 b)
      ∙ ap (λ m. take m (lowered (take 16 b))) (sym (first ∙ ap (first_bit_of) is)) ∙ shorter b
    where
      shorter : (t : List ℕ) → take at (lowered (take 16 t)) ≡ take at (lowered t)
      shorter t = ap (take at) (lowered-take 16 t) ∙ take-take at 16 (lowered t) few

  -- Without a bit the 16 bytes are equal ignoring ASCII case.
  pub no_bit : 16 ≤ at → take 16 (lowered a) ≡ take 16 (lowered b)
  no_bit none = let all : at ≡ 16 = omega (arith, few, none) in subst (λ n. take n (lowered a) ≡ take n (lowered b)) all same_before

  -- The bytes at the first bit differ.
  pub first_bit : at < 16 → FirstDifference a b at
  first_bit near =
      let stop : get_or bits at 0 ≡ 1 =
      (let stops = prefix_len_stops (λ b. not (b == 1)) bits 0 (omega (arith, near, bit_count, first)) in
      grind (arith, nat_tests, first)) in
      let differ : difference_bit (get_or a at 0) (get_or b at 0) ≡ 1 =
      cc (
        stop,
        ap (λ m. get_or m at 0) is,
        get_or-zip2 difference_bit (take 16 a) (take 16 b) at 0 0 0 (omega (arith, near, length-take-le 16 a room))
            (omega (arith, near, length-take-le 16 b other_room)),
        get_or-take 16 a at 0 near,
        get_or-take 16 b at 0 near,
      ) in
      record {
        within = omega (arith, near, room);
        within_other = omega (arith, near, other_room);
        equal_before = same_before;
        differ = differ_at_bit (get_or a at 0) (get_or b at 0) differ;
      }

-- after equal bytes: more of them, or a difference
module _ (a b : List ℕ) (from : ℕ) (before : take from (lowered a) ≡ take from (lowered b)) where
  -- After equal bytes more bytes are equal.
  pub equal_onward : (n : ℕ) → take n (lowered (take (length a - from) (drop from a)))
      ≡ take n (lowered (take (length b - from) (drop from b))) → take (from + n) (lowered a) ≡ take (from + n) (lowered b)
  equal_onward n block =
      let rest = ap (take n) (sym (lowered_rest a from)) ∙ block ∙ ap (take n) (lowered_rest b from) in
      take-add from n (lowered a) ∙ (λ i. before i ++ rest i) ∙ sym (take-add from n (lowered b))

  -- After equal bytes a difference is the first.
  pub difference_onward : (n : ℕ) → FirstDifference (take (length a - from) (drop from a)) (take (length b - from) (drop from b)) n
      → FirstDifference a b (from + n)
  difference_onward n d = record {
    within = omega (arith, d.within, ap length (take_rest a from), length-drop from a);
    within_other = omega (arith, d.within_other, ap length (take_rest b from), length-drop from b);
    equal_before = equal_onward n d.equal_before;
    differ = λ same. d.differ (ap to_ascii_lowercase (at a) ∙ same ∙ ap to_ascii_lowercase (sym (at b)));
  }
    where
      at : (text : List ℕ) → get_or (take (length text - from) (drop from text)) n 0 ≡ get_or text (from + n) 0
      at text = ap (λ t. get_or t n 0) (take_rest text from) ∙ get_or-drop from text n 0

-- Texts of one length are the same ignoring ASCII case exactly if none is found.
pub none_found : (a b : List ℕ) (found : Option ℕ) (none : Bool) → is_some found ≡ not none → length a ≡ length b
    → IfSome found (FirstDifference a b) → (found ≡ None → length a ≡ length b → lowered a ≡ lowered b)
    → IsTrue none ↔ (lowered a ≡ lowered b)
none_found a b None true is long d all = (λ _. all refl long, λ _. refl)
none_found a b (Some at) false is long d all = (
  λ bad. absurd cc,
  λ same. absurd (d.differ (sym (get_or-map to_ascii_lowercase a at 0 0 d.within) ∙ ap (λ t. get_or t at 0) same
      ∙ get_or-map to_ascii_lowercase b at 0 0 d.within_other)),
)
none_found a b found none is long d all = absurd cc
