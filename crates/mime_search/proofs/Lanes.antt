-- The bit mask of a class, lane by lane.
use Rattle.std.proofs.Common.{rules, ◌≡◌, ℕ, ◌+◌, ◌*◌, ◌-◌, ◌%◌, ◌^◌, suc, Bool, true, false, not, cond, List, [], ◌∷◌, map, length}
use Rattle.std.proofs.Common.{replicate, refl, ap, ◌∙◌, arith, bit_and}
use Rattle.std.specs.Prelude.{◌||◌, ◌&&◌, ◌==◌, nat_lt}
use Rattle.std.proofs.lemmas.Bool.Decides.{nat_tests}
use Rattle.std.proofs.lemmas.List.{length-map}
use Rattle.std.proofs.lemmas.Simd.{map-map, zip2_splat, zip2_splat_left, zip2_of_maps, mask_l-mod}
use Rattle.std.proofs.Math.Nat.{pow-suc, mul_comm}
use Rattle.std.proofs.lemmas.Grind.{common_steps}
use Rattle.std.specs.{Simd.Lanes.mask_l, Simd.Lanes.zip2, Simd.Lanes.top, Int.Bits.bit_or, Int.Bits.or_zero_r}
use Rattle.mime_search.specs.Classes.{is_outside_range, is_outside, outside, stops}
use Rattle.mime_search.specs.declared.class.Class.{Class}
use Rattle.mime_search.specs.declared.class.Range.{Range}

-- a lane of a comparison has all bits, or none
abbrev lane : Bool → ℕ
lane t = cond t (2 ^ 8 - 1) 0

-- Two lanes are joined by or.
or_lane : (s t : Bool) → bit_or (lane s) (lane t) ≡ lane (s || t)
or_lane s t = search rules

-- Two lanes are joined by and.
and_lane : (s t : Bool) → bit_and (lane s) (lane t) ≡ lane (s && t)
and_lane s t = search rules

-- The top bit of a lane tells whether it has all bits.
top_lane : (t : Bool) → top 7 (lane t) ≡ t
top_lane t = search rules

-- whether a vector's lanes are outside a range, as it is computed
abbrev range_lanes : List ℕ → ℕ → ℕ → List ℕ
range_lanes v first last =
    zip2 bit_or (zip2 (λ a b. lane (nat_lt a b)) v (replicate 16 first)) (zip2 (λ a b. lane (nat_lt a b)) (replicate 16 last) v)

-- The lanes outside a range are those of the bytes outside it.
range_of_map : (f : ℕ → ℕ) (range : Range) (v vs : List ℕ) → length vs ≡ 16 → v ≡ map f vs
    → range_lanes v range.0 range.1 ≡ map (λ b. lane (is_outside_range range (f b))) vs
range_of_map f range v vs long is =
    let size : length v ≡ 16 = ap length is ∙ (length-map vs f ∙ long) in
    let below = zip2_splat (λ a b. lane (nat_lt a b)) v 16 range.0 size
    ∙ (ap (map (λ a. lane (nat_lt a range.0))) is ∙ map-map (λ a. lane (nat_lt a range.0)) f vs) in
    let above = zip2_splat_left (λ a b. lane (nat_lt a b)) range.1 16 v size
    ∙ (ap (map (λ a. lane (nat_lt range.1 a))) is ∙ map-map (λ a. lane (nat_lt range.1 a)) f vs) in
    zip2_of_maps bit_or (λ b. lane (nat_lt (f b) range.0)) (λ b. lane (nat_lt range.1 (f b))) vs below above
    ∙ (λ i. map (λ b. or_lane (nat_lt (f b) range.0) (nat_lt range.1 (f b)) i) vs)

-- A vector is the map of itself by the identity.
same_lanes : (vs : List ℕ) → vs ≡ map (λ b. b) vs
same_lanes vs = grind (arith, common_steps)

-- The mask of a vector, as it is computed.
pub outside_lanes : (class : Class) (v : List ℕ) → length v ≡ 16 → mask_l (map (top 7) (zip2 bit_and
    (zip2 bit_and (range_lanes (zip2 bit_or v (replicate 16 class.fold)) class.folded.0 class.folded.1)
    (range_lanes v class.second.0 class.second.1)) (range_lanes v class.third.0 class.third.1))) % 2 ^ 64 ≡ outside class v
outside_lanes class v long =
    let folded = range_of_map (λ b. bit_or b class.fold) class.folded _ v long (zip2_splat bit_or v 16 class.fold long) in
    let second = range_of_map (λ b. b) class.second v v long (same_lanes v) in
    let third = range_of_map (λ b. b) class.third v v long (same_lanes v) in
    let one : ℕ → Bool = λ b. is_outside_range class.folded (bit_or b class.fold) in
    let two : ℕ → Bool = λ b. is_outside_range class.second b in
    let three : ℕ → Bool = λ b. is_outside_range class.third b in
    let both : zip2 bit_and _ _ ≡ map (λ b. lane (one b && two b)) v =
    zip2_of_maps bit_and (λ b. lane (one b)) (λ b. lane (two b)) v folded second ∙ (λ i. map (λ b. and_lane (one b) (two b) i) v) in
    let all : zip2 bit_and _ _ ≡ map (λ b. lane (is_outside class b)) v =
    zip2_of_maps bit_and (λ b. lane (one b && two b)) (λ b. lane (three b)) v both third
    ∙ (λ i. map (λ b. and_lane (one b && two b) (three b) i) v) in
    ap (λ xs. mask_l (map (top 7) xs) % 2 ^ 64) all ∙ ap (λ xs. mask_l xs % 2 ^ 64)
    (map-map (top 7) (λ b. lane (is_outside class b)) v ∙ (λ i. map (λ b. top_lane (is_outside class b) i) v))
    ∙ mask_l-mod (map (is_outside class) v) 64 (omega (arith, length-map v (is_outside class), long))

-- The bits of the bytes that fail a test are those that the mask of the others lacks.
mask-not : (p : ℕ → Bool) (xs : List ℕ) → mask_l (map (λ b. not (p b)) xs) + mask_l (map p xs) + 1 ≡ 2 ^ length xs
mask-not p [] = refl
mask-not p (x ∷ xs) = go (p x) (mask-not p xs)
  where
    double : 2 ^ suc (length xs) ≡ 2 * 2 ^ length xs
    double = pow-suc 2 (length xs) ∙ mul_comm (2 ^ length xs) 2

    go : (b : Bool) → mask_l (map (λ b. not (p b)) xs) + mask_l (map p xs) + 1 ≡ 2 ^ length xs
        → cond (not b) 1 0 + 2 * mask_l (map (λ b. not (p b)) xs) + (cond b 1 0 + 2 * mask_l (map p xs)) + 1 ≡ 2 ^ suc (length xs)
    go true others = omega (arith, others, double)
    go false others = omega (arith, others, double)

-- A search that stops inside ranges has the mask of the bytes inside.
pub stops_inside : (class : Class) (v : List ℕ) → length v ≡ 16 → class.inside ≡ true
    → 65535 - outside class v ≡ stops class v
stops_inside class v long is = rw is (omega (arith, mask-not (is_outside class) v, ap (λ n. 2 ^ n) long))

-- Two bytes are tested as two ranges.
pub of_two : (one other b : ℕ) → not (((nat_lt (bit_or b 0) one || nat_lt one (bit_or b 0)) && (nat_lt b other || nat_lt other b))
    && (nat_lt b other || nat_lt other b)) ≡ (b == one || b == other)
of_two one other b = rw (or_zero_r b) (grind (arith, nat_tests))
