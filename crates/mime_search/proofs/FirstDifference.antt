-- Where two texts first differ in a block: at the lowest bit of a mask.
use Rattle.std.proofs.Common.{◌≡◌, ◌≢◌, ℕ, ◌+◌, ◌-◌, ◌%◌, ◌^◌, ◌<◌, ◌≤◌, true, false, not, cond, eqb, List, map, length, sym, ap, ap₂, ◌∙◌}
use Rattle.std.proofs.Common.{subst, arith, get_or}
use Rattle.std.specs.{List.prefix_len, Simd.Lanes.chunk, Simd.Lanes.mask_l, Simd.Lanes.top, Simd.Lanes.zip2}
use Rattle.std.proofs.lemmas.Bool.Decides.{nat_tests}
use Rattle.std.proofs.lemmas.List.{length-map}
use Rattle.std.proofs.lemmas.List.Sums.{prefix_len_passes, prefix_len_stops, prefix_len-le-length}
use Rattle.std.proofs.lemmas.Simd.{mask_l-mod, length-zip2, length-chunk, get_or-zip2, get_or-chunk, leading_from_mask_l, trailing_mask_l}
use lib.Count.{count_trailing_zeros}
use Rattle.mime_search.specs.Differences.{DifferAt}
use Rattle.mime_search.proofs.Searches.{all_pass}

-- the lane of two bytes: all its bits are set if they differ
abbrev difference_lane : ℕ → ℕ → ℕ
difference_lane x y = cond (not (eqb x y)) 255 0

-- It tells whether they are the same.
lane_same : (x y : ℕ) → not (top 7 (difference_lane x y)) ≡ true → x ≡ y
lane_same x y is = grind (arith, nat_tests, is)

-- A lane that shows no difference has the same bytes.
lane_differs : (x y : ℕ) → not (top 7 (difference_lane x y)) ≡ false → x ≢ y
lane_differs x y is same = grind (arith, nat_tests, is, same)

module _ (a b : List ℕ) (at : ℕ) (room : at + 16 ≤ length a) (other_room : at + 16 ≤ length b) where
  -- The lane of each pair of bytes of the block.
  abbrev lanes : List ℕ
  lanes = zip2 difference_lane (chunk at 16 a) (chunk at 16 b)

  -- The number of pairs before the first pair that differs.
  abbrev equal_run : ℕ
  equal_run = prefix_len (λ x. not (top 7 x)) lanes

  -- each byte of the block has a lane
  count : length lanes ≡ 16
  count =
      let size = length-chunk at 16 a room in
      length-zip2 difference_lane (chunk at 16 a) (chunk at 16 b) (size ∙ sym (length-chunk at 16 b other_room)) ∙ size

  -- the lane at a position is that of the bytes there
  lane_at : (k : ℕ) → k < 16 → get_or lanes k 0 ≡ difference_lane (get_or a (at + k) 0) (get_or b (at + k) 0)
  lane_at k lt =
      get_or-zip2 difference_lane (chunk at 16 a) (chunk at 16 b) k 0 0 0 (omega (arith, lt, length-chunk at 16 a room))
      (omega (arith, lt, length-chunk at 16 b other_room))
      ∙ ap₂ difference_lane (get_or-chunk at 16 a k 0 lt) (get_or-chunk at 16 b k 0 lt)

  -- the bytes before the first bit are the same
  passed : (k : ℕ) → k < equal_run → k < 16 → get_or a (at + k) 0 ≡ get_or b (at + k) 0
  passed k before lt =
      lane_same (get_or a (at + k) 0) (get_or b (at + k) 0)
      (ap (λ x. not (top 7 x)) (sym (lane_at k lt)) ∙ prefix_len_passes (λ x. not (top 7 x)) lanes k 0 before)

  -- The mask of the lanes' top bits.
  abbrev lane_mask : ℕ
  lane_mask = mask_l (map (top 7) lanes)

  -- all bits of the mask are kept in a word
  pub in_word : lane_mask % 2 ^ 64 ≡ lane_mask
  in_word = mask_l-mod (map (top 7) lanes) 64 (omega (arith, length-map lanes (top 7), count))

  -- All bytes are the same if the mask has no bit.
  pub none_differs : lane_mask ≡ 0 → (k : ℕ) → at ≤ k → k < at + 16 → get_or a k 0 ≡ get_or b k 0
  none_differs none k least lt =
      let back : at + (k - at) ≡ k = omega (arith, least) in
      subst (λ n. get_or a n 0 ≡ get_or b n 0) back
      (passed (k - at) (omega (arith, lt, least, leading_from_mask_l (top 7) lanes none, count)) (omega (arith, lt, least)))

  -- the lowest bit is at the first difference
  pub lowest_differs : lane_mask ≢ 0 → DifferAt a b at (at + count_trailing_zeros 64 lane_mask)
  lowest_differs some =
      let first : count_trailing_zeros 64 lane_mask ≡ equal_run =
      trailing_mask_l (top 7) 64 lanes (omega (arith, count)) (omega (arith, some)) in
      let within : equal_run < length lanes = omega (
        arith,
        (λ (all : equal_run ≡ length lanes). some (all_pass (top 7) lanes all)),
        prefix_len-le-length (λ x. not (top 7 x)) lanes,
      ) in
      let here : equal_run < 16 = omega (arith, within, count) in
      rw first (record {
        least = omega arith;
        equal_before = λ k least before.
            let back : at + (k - at) ≡ k = omega (arith, least) in
            subst (λ n. get_or a n 0 ≡ get_or b n 0) back
            (passed (k - at) (omega (arith, least, before)) (omega (arith, least, before, here)));
        differ = lane_differs (get_or a (at + equal_run) 0) (get_or b (at + equal_run) 0)
            (ap (λ x. not (top 7 x)) (sym (lane_at equal_run here)) ∙ prefix_len_stops (λ x. not (top 7 x)) lanes 0 within);
      })
