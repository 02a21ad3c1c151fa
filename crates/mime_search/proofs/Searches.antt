-- A search by bit masks: a block without a bit is passed, and the lowest bit is the first stop.
use Rattle.std.proofs.Common.{◌≡◌, ◌≢◌, ℕ, ◌+◌, ◌-◌, ◌*◌, ◌/◌, ◌^◌, ◌<◌, ◌≤◌, zero, suc, Bool, not, cond, eqb, List, [], ◌∷◌, map, length}
use Rattle.std.proofs.Common.{take, drop, refl, sym, ap, ◌∙◌, arith, length-drop}
use Rattle.std.proofs.lemmas.Simd.{leading_from_mask_l, trailing_mask_l}
use Rattle.std.proofs.lemmas.List.{drop-drop, drop-map, take_all, take-append-drop, length-take-le}
use Rattle.std.proofs.lemmas.List.Folds.{prefix_len-append}
use Rattle.std.proofs.lemmas.List.Sums.{prefix_len-le-length}
use Rattle.std.proofs.lemmas.Bool.{eq-eqb, ne_eqb, cond-true, cond-false}
use Rattle.std.proofs.Math.Nat.{div-div-eq-div-mul, div-one, zero-div, pow-suc, mul_comm}
use Rattle.std.proofs.Math.Bool.{or_self}
use Rattle.std.proofs.lemmas.Grind.{common_steps}
use Rattle.std.specs.{List.prefix_len, List.position_or_len, Simd.Lanes.mask_l}
use Rattle.std.specs.Prelude.{◌==◌, ◌||◌}
use Rattle.mime_search.specs.{Classes.is_stop, Classes.end_of_run, Classes.stops, declared.class.Class.Class}
use lib.Count.{count_trailing_zeros}

-- ---- bit masks

-- Halving a bit mask drops its lowest bit.
half : (b : Bool) (m : ℕ) → (cond b 1 0 + 2 * m) / 2 ≡ m
half b m = grind (arith, common_steps)

-- Dividing a bit mask by a power of two drops its lowest bits.
pub mask-drop : (n : ℕ) (ms : List Bool) → mask_l ms / 2 ^ n ≡ mask_l (drop n ms)
mask-drop zero ms = div-one (mask_l ms)
mask-drop (suc n) [] = zero-div (2 ^ suc n)
mask-drop (suc n) (b ∷ ms) =
    ap (λ k. mask_l (b ∷ ms) / k) (pow-suc 2 n ∙ mul_comm (2 ^ n) 2) ∙ sym (div-div-eq-div-mul (mask_l (b ∷ ms)) 2 (2 ^ n))
    ∙ ap (λ k. k / 2 ^ n) (half b (mask_l ms)) ∙ mask-drop n ms

-- A bit more, if it isn't set.
none_fails : (b : Bool) (n l m : ℕ) → n ≤ l → cond (not b) (1 + n) 0 ≡ 1 + l → (n ≡ l → m ≡ 0)
    → cond b 1 0 + 2 * m ≡ 0
none_fails b n l m le e rest = grind (arith, common_steps)

-- If no byte has its bit, the search passes them all.
pub all_pass : (p : ℕ → Bool) (xs : List ℕ) → prefix_len (λ x. not (p x)) xs ≡ length xs → mask_l (map p xs) ≡ 0
all_pass p [] e = refl
all_pass p (x ∷ xs) e = none_fails (p x) _ (length xs) _ (prefix_len-le-length (λ y. not (p y)) xs) (omega (arith, e)) (all_pass p xs)

-- ---- the first stop

-- A run ends within the text.
pub run_within : (p : ℕ → Bool) (text : List ℕ) (from to : ℕ) → from ≤ length text
    → to ≡ from + prefix_len p (drop from text) → to ≤ length text
run_within p text from to within is = omega (arith, is, prefix_len-le-length p (drop from text), length-drop from text)

-- The bits of the last block, without those before a position, are those of the bytes from there on.
pub last_bits : (class : Class) (text : List ℕ) (from found : ℕ) → 16 ≤ length text → length text < from + 16
    → from ≤ length text → found ≡ stops class (take 16 (drop (length text - 16) text))
    → found / 2 ^ (from - (length text - 16)) ≡ stops class (take (length text - from) (drop from text))
last_bits class text from found long end within is =
    let start = length text - 16 in
    let more = from - start in
    let there : start + more ≡ from = omega (arith, end) in
    ap (λ m. m / 2 ^ more) (is ∙ ap (stops class) (take_all 16 (drop start text) (omega (arith, length-drop start text))))
    ∙ mask-drop more (map (is_stop class) (drop start text)) ∙ ap mask_l (drop-map (is_stop class) more (drop start text))
    ∙ ap (stops class) (drop-drop more start text ∙ ap (λ n. drop n text) there
    ∙ sym (take_all (length text - from) (drop from text) (omega (arith, length-drop from text))))

-- what the bit mask of the bytes from a position on shows
module _ (p : ℕ → Bool) (text : List ℕ) (at n found : ℕ) (room : at + n ≤ length text) (few : n ≤ 64)
    (is : found ≡ mask_l (map p (take n (drop at text)))) where
  -- The number of bytes before the first that passes the test.
  abbrev run : List ℕ → ℕ
  run bytes = prefix_len (λ b. not (p b)) bytes

  -- As many bytes are taken as there are bits.
  long : length (take n (drop at text)) ≡ n
  long = length-take-le n (drop at text) (omega (arith, room, length-drop at text))

  -- a run goes on after them, or ends among them
  split : run (drop at text) ≡ cond (eqb (run (take n (drop at text))) (length (take n (drop at text))))
      (length (take n (drop at text)) + run (drop n (drop at text))) (run (take n (drop at text)))
  split =
      ap run (sym (take-append-drop n (drop at text)))
      ∙ prefix_len-append (λ b. not (p b)) (take n (drop at text)) (drop n (drop at text))

  -- All bytes are passed if the mask has no bit.
  pub no_stop : found ≡ 0 → at + n + run (drop (at + n) text) ≡ at + run (drop at text)
  no_stop none =
      let all = eq-eqb _ _ (leading_from_mask_l p (take n (drop at text)) (sym is ∙ none)) in
      omega (arith, split ∙ cond-true _ _ _ all, long, ap run (drop-drop n at text))

  -- With a bit, not all bytes are passed.
  within : found ≢ 0 → run (take n (drop at text)) < n
  within some = omega (
    arith,
    (λ (all : run (take n (drop at text)) ≡ length (take n (drop at text))). some (is ∙ all_pass p (take n (drop at text)) all)),
    prefix_len-le-length (λ b. not (p b)) (take n (drop at text)),
    long,
  )

  -- the lowest bit is the first stop
  lowest : found ≢ 0 → count_trailing_zeros 64 found ≡ run (take n (drop at text))
  lowest some =
      ap (count_trailing_zeros 64) is ∙ trailing_mask_l p 64 (take n (drop at text)) (omega (arith, few, long)) (omega (arith, is, some))

  -- The lowest bit is that of a byte among them.
  pub stop_within : found ≢ 0 → count_trailing_zeros 64 found < n
  stop_within some = omega (arith, within some, lowest some)

  -- The lowest bit is that of the first stop.
  pub a_stop : found ≢ 0 → at + count_trailing_zeros 64 found ≡ at + run (drop at text)
  a_stop some =
      let stops : run (take n (drop at text)) ≢ length (take n (drop at text)) = omega (arith, within some, long) in
      ap (λ k. at + k) (lowest some ∙ sym (split ∙ cond-false _ _ _ (ne_eqb _ _ stops)))

-- A search that stops at one byte stops at its first position.
pub first_stop-position : (class : Class) (byte : ℕ) → ((b : ℕ) → is_stop class b ≡ (b == byte || b == byte))
    → (text : List ℕ) (from : ℕ) → end_of_run class text from ≡ from + position_or_len (λ b. b == byte) (drop from text)
first_stop-position class byte are text from = λ i. from + prefix_len (λ b. not ((are b ∙ or_self (b == byte)) i)) (drop from text)
