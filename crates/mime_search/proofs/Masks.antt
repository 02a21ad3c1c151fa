-- Bit masks of a text's first bytes: how they are joined, and what they show.
use Rattle.std.proofs.Common.{◌≡◌, ◌≢◌, ℕ, ◌+◌, ◌*◌, ◌-◌, ◌/◌, ◌%◌, ◌^◌, ◌<◌, ◌≤◌, suc, Bool, not, List, [], ◌∷◌, ◌++◌, map, length, take}
use Rattle.std.proofs.Common.{drop, sym, ap, ◌∙◌, subst, arith, length-drop, length-append}
use Rattle.std.specs.{List.prefix_len, Simd.Lanes.mask_l}
use Rattle.std.proofs.lemmas.List.{length-map, drop-map, drop-take, drop-drop, take-take, take_all, take_at, drop_at, take-append-drop}
use Rattle.std.proofs.lemmas.List.{length-take-le, map-append}
use Rattle.std.proofs.lemmas.Simd.{mask_l-lt}
use Rattle.std.proofs.Math.Nat.{pow-suc, mul_comm, mul_assoc}
use lib.Count.{count_trailing_zeros}
use Rattle.mime_search.proofs.Searches.{mask-drop, no_stop, a_stop, stop_within}

-- ---- masks that are joined

-- The mask of bytes and more bytes has the bits of both.
mask-append : (xs ys : List Bool) → mask_l (xs ++ ys) ≡ mask_l xs + 2 ^ length xs * mask_l ys
mask-append [] ys = omega arith
mask-append (x ∷ xs) ys =
    let double : 2 ^ suc (length xs) * mask_l ys ≡ 2 * (2 ^ length xs * mask_l ys) =
    ap (λ k. k * mask_l ys) (pow-suc 2 (length xs) ∙ mul_comm (2 ^ length xs) 2) ∙ mul_assoc 2 (2 ^ length xs) (mask_l ys) in
    omega (arith, mask-append xs ys, double)

-- the bytes that pass a test, as a mask
module _ (p : ℕ → Bool) where
  -- The mask of the bytes of a list.
  abbrev mask : List ℕ → ℕ
  mask bytes = mask_l (map p bytes)

  -- it has a bit for each byte
  pub mask-lt : (bytes : List ℕ) (n : ℕ) → length bytes ≡ n → mask bytes < 2 ^ n
  mask-lt bytes n long = subst (λ m. mask bytes < 2 ^ m) (length-map bytes p ∙ long) (mask_l-lt (map p bytes))

  -- The mask of a text is that of its first bytes and that of the others.
  mask-split : (n : ℕ) (text : List ℕ) → n ≤ length text → mask text ≡ mask (take n text) + mask (drop n text) * 2 ^ n
  mask-split n text room =
      ap mask (sym (take-append-drop n text)) ∙ ap mask_l (map-append p (take n text) (drop n text))
      ∙ mask-append (map p (take n text)) (map p (drop n text))
      ∙ ap (λ k. mask (take n text) + 2 ^ k * mask (drop n text)) (length-map (take n text) p ∙ length-take-le n text room)
      ∙ ap (λ k. mask (take n text) + k) (mul_comm (2 ^ n) (mask (drop n text)))

  -- the mask of a text without its first bytes
  rest-mask : (n : ℕ) (bytes : List ℕ) → mask bytes / 2 ^ n ≡ mask (drop n bytes)
  rest-mask n bytes = mask-drop n (map p bytes) ∙ ap mask_l (drop-map p n bytes)

  -- The mask of some bytes, shifted, is that of the later ones among them.
  pub later-mask : (k n : ℕ) (bytes : List ℕ) → k ≤ n → mask (take n bytes) / 2 ^ k ≡ mask (take (n - k) (drop k bytes))
  later-mask k n bytes within =
      let all : k + (n - k) ≡ n = omega (arith, within) in
      rest-mask k (take n bytes) ∙ ap (λ m. mask (drop k (take m bytes))) (sym all) ∙ ap mask (drop-take k (n - k) bytes)

  -- the mask of a text by those of its first and of its last bytes
  pub mask-joined : (n : ℕ) (text : List ℕ) → n ≤ length text → length text ≤ n + n
      → mask (take n text) + mask (drop (length text - n) text) / 2 ^ (n + n - length text) * 2 ^ n ≡ mask text
  mask-joined n text room reach =
      let from = length text - n in
      let at : from + (n + n - length text) ≡ n = omega (arith, room, reach) in
      ap (λ m. mask (take n text) + m * 2 ^ n) (rest-mask (n + n - length text) (drop from text)
      ∙ ap mask (drop-drop (n + n - length text) from text ∙ ap (λ m. drop m text) at)) ∙ sym (mask-split n text room)

  -- the mask of two blocks
  pub mask-two : (bytes : List ℕ) → 32 ≤ length bytes
      → mask (take 16 bytes) + mask (take 16 (drop 16 bytes)) * 65536 ≡ mask (take 32 bytes)
  mask-two bytes room =
      sym (mask-split 16 (take 32 bytes) (omega (arith, room, length-take-le 32 bytes room))
      ∙ ap (λ t. mask t + mask (drop 16 (take 32 bytes)) * 65536) (take-take 16 32 bytes (omega arith))
      ∙ ap (λ t. mask (take 16 bytes) + mask t * 65536) (drop-take 16 16 bytes))

  -- that of the last two blocks
  pub mask-end : (text : List ℕ) → 32 ≤ length text
      → mask (take 16 (drop (length text - 16 - 16) text)) + mask (take 16 (drop (length text - 16) text)) * 65536
      ≡ mask (drop (length text - 32) text)
  mask-end text room =
      let from = length text - 32 in
      let at : from + 16 ≡ length text - 16 = omega (arith, room) in
      let first : length text - 16 - 16 ≡ from = omega arith in
      let size = length-drop from text in
      ap (λ n. mask (take 16 (drop n text)) + mask (take 16 (drop (length text - 16) text)) * 65536) first
      ∙ ap (λ t. mask (take 16 (drop from text)) + mask (take 16 t) * 65536) (sym (drop-drop 16 from text ∙ ap (λ n. drop n text) at))
      ∙ mask-two (drop from text) (omega (arith, size, room)) ∙ ap mask (take_all 32 (drop from text) (omega (arith, size)))

  -- the masks of two halves, from that of both in one vector
  pub mask-halves : (a b : List ℕ) (found : ℕ) → length a ≡ 8 → length b ≡ 8 → found ≡ mask (a ++ b)
      → (found % 256 ≡ mask a) × (found / 256 ≡ mask b)
  mask-halves a b found one other is =
      let whole : found ≡ mask a + mask b * 256 =
      is ∙ mask-split 8 (a ++ b) (omega (arith, length-append a b, one))
      ∙ (λ i. mask (take_at a b 8 one i) + mask (drop_at a b 8 one i) * 256) in
      let few = mask-lt a 8 one in
      (omega (arith, whole, few), omega (arith, whole, few))

-- ---- the known bytes of a text

-- what the mask of the first bytes shows of those from a position on
module _ (p : ℕ → Bool) (text : List ℕ) (at known found : ℕ) (is : found ≡ mask_l (map p (take known text)))
    (there : known ≤ length text) (few : known ≤ 64) (inside : at < known) where
  -- The bytes known from a position on, and those before it, are all that are known.
  whole : at + (known - at) ≡ known
  whole = omega (arith, inside)

  -- The shifted mask is that of the bytes from the position on.
  next : found / 2 ^ at ≡ mask_l (map p (take (known - at) (drop at text)))
  next = ap (λ m. m / 2 ^ at) is ∙ later-mask p at known text (omega (arith, inside))

  -- Without a bit all known bytes are passed.
  pub known-none : found / 2 ^ at ≡ 0 → known ≤ at + prefix_len (λ b. not (p b)) (drop at text)
  known-none none = omega (arith, no_stop p text at (known - at) _ (omega (arith, whole, there)) (omega (arith, few)) next none, whole)

  -- With a bit the lowest is that of a known byte.
  pub known-few : found / 2 ^ at ≢ 0 → at + count_trailing_zeros 64 (found / 2 ^ at) < known
  known-few some = omega (arith, stop_within p text at (known - at) _ (omega (arith, whole, there)) (omega (arith, few)) next some, whole)

  -- With a bit the bytes before the lowest are passed.
  pub known-some : found / 2 ^ at ≢ 0
      → at + count_trailing_zeros 64 (found / 2 ^ at) ≡ at + prefix_len (λ b. not (p b)) (drop at text)
  known-some some = a_stop p text at (known - at) _ (omega (arith, whole, there)) (omega (arith, few)) next some
