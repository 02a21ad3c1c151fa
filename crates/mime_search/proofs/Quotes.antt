-- The search for the end of quoted content, position by position.
use Rattle.std.proofs.Common.{⊎_elim, one-add, ◌≡◌, ◌≢◌, ℕ, suc, ◌+◌, ◌++◌, ◌<◌, ◌≤◌, Bool, true, false, cond, List, [], ◌∷◌, length}
use Rattle.std.proofs.Common.{length-drop, get_or, map, take, drop, refl, sym, ap, ◌∙◌, arith, rules}
use Rattle.std.specs.Prelude.{◌==◌, ◌||◌, not}
use Rattle.std.specs.{List.prefix_len, Simd.Lanes.mask_l}
use Rattle.std.proofs.lemmas.Bool.{or_parts, cases_Bool}
use Rattle.std.proofs.lemmas.Bool.Decides.{nat_tests}
use Rattle.std.proofs.lemmas.List.{drop_more, drop-drop, get_or-drop}
use Rattle.std.proofs.lemmas.List.Sums.{prefix_len_stops}
use Rattle.mime_search.proofs.Searches.{a_stop, no_stop, stop_within}
use lib.Count.{count_trailing_zeros}
use Rattle.mime_search.specs.Classes.{is_stop, end_of_run}
use Rattle.mime_search.specs.declared.class.Class.{Class}
use Rattle.mime_search.specs.Quoted.{quote, backslash, len_from, meant_from}

-- What a position leaves to search for the end of quoted content.
len_from-at : (text : List ℕ) (position : ℕ) → position < length text → len_from false (drop position text)
    ≡ cond (get_or text position 0 == quote) 0 (suc (len_from (get_or text position 0 == backslash) (drop (position + 1) text)))
len_from-at text position within = ap (len_from false) (drop_more text position 0 within)

-- A quote or a backslash.
abbrev pub is_mark : ℕ → Bool
is_mark b = b == quote || b == backslash

-- The number of bytes before the first quote or backslash.
abbrev pub plain_len : List ℕ → ℕ
plain_len bytes = prefix_len (λ b. not (is_mark b)) bytes

-- A run without quotes and backslashes is passed.
plain_run : (bytes : List ℕ) → plain_len bytes + len_from false (drop (plain_len bytes) bytes) ≡ len_from false bytes
plain_run [] = refl
plain_run (b ∷ bytes) = ⊎_elim
    (λ (stop : (b == quote || b == backslash) ≡ true). rw stop (omega arith))
    (λ (plain : (b == quote || b == backslash) ≡ false).
    let parts = or_parts (b == quote) (b == backslash) plain in
    let next : 1 + plain_len bytes ≡ suc (plain_len bytes) = omega arith in
    rw (parts.0, parts.1, next) (omega (arith, plain_run bytes))) (cases_Bool (b == quote || b == backslash))

-- A search goes on after a run without quotes and backslashes.
pub search_past_plain_run : (text : List ℕ) (from to : ℕ) → to ≡ from + plain_len (drop from text)
    → to + len_from false (drop to text) ≡ from + len_from false (drop from text)
search_past_plain_run text from to is = search (plain_run, drop-drop, rules)

-- A search goes on after a run that a class passes.
pub search_past_run : (class : Class) → ((b : ℕ) → is_stop class b ≡ is_mark b) → (text : List ℕ) (from to : ℕ)
    → to ≡ end_of_run class text from → to + len_from false (drop to text) ≡ from + len_from false (drop from text)
search_past_run class are text from to is =
    search_past_plain_run text from to (is ∙ (λ i. from + prefix_len (λ b. not (are b i)) (drop from text)))

-- A first quote or backslash within the text is one.
mark_there : (text : List ℕ) (from to : ℕ) → to ≡ from + plain_len (drop from text) → to < length text
    → is_mark (get_or text to 0) ≡ true
mark_there text from to is within = search (length-drop, get_or-drop, prefix_len_stops, rules)

-- A backslash is passed with the byte that it pairs.
pub search_past_pair : (text : List ℕ) (position whole : ℕ) → position + len_from false (drop position text) ≡ whole
    → position + 1 < length text → get_or text position 0 ≡ backslash
    → position + 2 + len_from false (drop (position + 2) text) ≡ whole
search_past_pair text position whole e within backslash =
    let at = rw backslash at (len_from-at text position (omega arith)) in
    let next : position + 1 + 1 ≡ position + 2 = omega arith in
    omega (arith, e, at, ap (len_from true) (drop_more text (position + 1) 0 within), ap (λ n. len_from false (drop n text)) next)

-- Three pairs are passed at once in that search.
pub search_past_three : (text : List ℕ) (position whole : ℕ) → position + len_from false (drop position text) ≡ whole
    → position + 6 < length text → get_or text position 0 ≡ backslash → get_or text (position + 2) 0 ≡ backslash
    → get_or text (position + 4) 0 ≡ backslash → position + 6 + len_from false (drop (position + 6) text) ≡ whole
search_past_three text position whole e within first second third =
    let two : position + 2 + 2 ≡ position + 4 = omega arith in
    let three : position + 4 + 2 ≡ position + 6 = omega arith in
    let left = λ (n : ℕ). len_from false (drop n text) in
    let after_one = search_past_pair text position whole e (omega (arith, within)) first in
    let after_two = search_past_pair text (position + 2) whole after_one (omega (arith, within)) second in
    let so_far : position + 4 + len_from false (drop (position + 4) text) ≡ whole = omega (arith, after_two, ap left two) in
    omega (arith, search_past_pair text (position + 4) whole so_far (omega (arith, within)) third, ap left three)

-- ---- the quotes and backslashes of a few bytes, as a bit mask

-- the lowest bit is the first one, and the bytes before it are passed
pub record FirstMark (text : List ℕ) (at n stop : ℕ) : Type 0 where
  pub within : stop < at + n
  pub left : stop + len_from false (drop stop text) ≡ at + len_from false (drop at text)
  pub mark : is_mark (get_or text stop 0) ≡ true

module _ (text : List ℕ) (at n found : ℕ) (room : at + n ≤ length text) (few : n ≤ 16)
    (is : found ≡ mask_l (map is_mark (take n (drop at text)))) where
  -- The lowest bit is that of the first quote or backslash.
  pub first_mark : found ≢ 0 → FirstMark text at n (at + count_trailing_zeros 64 found)
  first_mark some =
      let there = a_stop is_mark text at n found room (omega (arith, few)) is some in
      let within = stop_within is_mark text at n found room (omega (arith, few)) is some in
      record {
        within = omega (arith, within);
        left = search_past_plain_run text at _ there;
        mark = mark_there text at _ there (omega (arith, within, room));
      }

  -- All bytes are passed if the mask has no bit.
  pub no_mark : found ≡ 0 → at + n + len_from false (drop (at + n) text) ≡ at + len_from false (drop at text)
  no_mark none =
      let stop = at + plain_len (drop at text) in
      sym (search_past_plain_run text (at + n) stop (sym (no_stop is_mark text at n found room (omega (arith, few)) is none)))
      ∙ search_past_plain_run text at stop refl

-- ---- what content means

-- The number of bytes before the first stop.
abbrev pub len_before : (ℕ → Bool) → List ℕ → ℕ
len_before stops bytes = prefix_len (λ b. not (stops b)) bytes

-- Bytes before the first backslash mean themselves.
pub meant_before : (stops : ℕ → Bool) → ((b : ℕ) → stops b ≡ (b == backslash || b == backslash)) → (content : List ℕ)
    → meant_from false content
    ≡ take (len_before stops content) content ++ meant_from false (drop (len_before stops content) content)
meant_before stops are [] = refl
meant_before stops are (b ∷ content) =
    grind (arith, nat_tests, one-add (len_before stops content), are b, meant_before stops are content)
