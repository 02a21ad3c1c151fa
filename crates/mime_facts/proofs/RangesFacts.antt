-- Worked facts of the pages `Ranges`, `Ranking` and `Unescaped`: what covers an offer, which is the best, and why; with the examples of
-- RFC 9110 (12.5.1) and of RFC 7231 (5.3.2). Ranges and offers are given by their texts.
use Rattle.std.proofs.Common.{rules}
use Rattle.mime_http.proofs.Common.{All-contains, AllPairs, AreInOrder, Bool, Contains, List, MeanTheSame, MediaType, None, Option, Some}
use Rattle.mime_http.proofs.Common.{[], ap, arith, best_offer, closeness, codes, drop, false, get_or, given_weight, is_some, map, not}
use Rattle.mime_http.proofs.Common.{prefix_len, refl, same_Some, slice_get, suc, sym, true, zero, ℕ, ◌<◌, ◌==◌, ◌∷◌, ◌≡◌, inl, length}
use Rattle.mime_http.proofs.Common.{length-map, list_all, list_any}
use Rattle.std.specs.List.{slice_split}
use Prim.Native.String.{String}
use Rattle.mime_http.{specs.Ranking.IsRanking, specs.Ranking.is_qvalue, specs.Ranking.ranked_as}
use Rattle.mime_http.specs.Ranges.{first_value, weight_of}
use Rattle.mime_http.{specs.Ranges.ComesBefore, specs.Ranges.merit_at, specs.declared.ranking.RankedOffer.RankedOffer}
use Rattle.mime_http.{proofs.Order.best_is_acceptable, proofs.Order.best_is_first, proofs.Order.best_is_ranked_first}
use Rattle.mime_http.{proofs.Order.one_ranking, proofs.Order.weighs_within, proofs.Demanded.covers_itself, proofs.Demanded.meaning_counts}
use Rattle.mime_http.{proofs.Strangers.stranger_changes_nothing}

-- These are the parts of a text between marks.
abbrev parts_at : ℕ → List ℕ → List (List ℕ)
parts_at mark text = slice_split (λ b. b == mark) text

-- This is the media type of a text without spaces, and those of a list.
abbrev media_in : List ℕ → MediaType
media_in text = record {
  essence = get_or (parts_at 59 text) 0 [];
  slash = prefix_len (λ b. not (b == 47)) text;
  plus = None;
  pairs = map (λ pair. (get_or (parts_at 61 pair) 0 [], get_or (parts_at 61 pair) 1 [])) (drop 1 (parts_at 59 text));
  kept = [];
}

abbrev media : String → MediaType
media text = media_in (codes text)

abbrev all : String → List MediaType
all text = map media_in (parts_at 44 (codes text))

-- These say whether a range covers an offer, what ranges give offers, and which of these is the best.
abbrev covers : String → String → Bool
covers range offer = is_some (closeness (media offer) (0, media range))

abbrev weighed : String → String → List ℕ
weighed ranges offers = map (given_weight (all ranges)) (all offers)

abbrev best : String → String → Option ℕ
best ranges offers = best_offer (all ranges) (all offers)

-- What covers an offer, and what doesn't.
what_covers :
    -- a range demands each of its parameters, with the same value in the same case, and `text/*` covers no image,
    (covers "text/html;level=1" "text/html;level=1;level=2" ≡ true) × (covers "text/html;level=1" "text/html" ≡ false)
    × (covers "text/html;level=2" "text/html;level=1" ≡ false) × (covers "text/html;level=A" "text/html;level=a" ≡ false)
    × (covers "text/html;level=1;level=2" "text/html;level=1" ≡ false) × (covers "text/*" "image/jpeg" ≡ false)
    -- also one after `q`; a name may stand twice: one of the offer's values is enough for each of the range's
    × (covers "text/html;q=0.5;level=1" "text/html" ≡ false) × (covers "text/html;level=2;level=1" "text/html;level=1;level=2" ≡ true)
    -- a quoted-pair means its byte, in a range and in an offer, and one that pairs a backslash means a backslash
    × (covers "text/plain;format=\\flowed" "text/plain;format=flowed" ≡ true)
    × (covers "text/plain;format=flowed" "text/plain;format=f\\lowe\\d" ≡ true)
    × (covers "text/plain;format=\\\\flowed" "text/plain;format=flowed" ≡ false)
what_covers = (refl, refl, refl, refl, refl, refl, refl, refl, refl, refl, refl)

-- Values that mean the same are covered as closely.
same_meaning : closeness (media "a/b;p=flowed") (0, media "a/b;p=\\flowed") ≡ closeness (media "a/b;p=\\f\\lowed") (
  0,
  media "a/b;p=flowed",
)
same_meaning = meaning_counts (media "a/b;p=\\flowed") (media "a/b;p=flowed") (media "a/b;p=flowed") (media "a/b;p=\\f\\lowed") 0
    (record { essence = refl; top = refl; pairs = refl }) (record { essence = refl; top = refl; pairs = refl }) refl

-- A paired backslash means another byte than a paired letter.
other_meaning : ¬ (MeanTheSame (media "a/b;p=\\\\") (media "a/b;p=\\x"))
other_meaning same = search rules

-- A media type covers itself.
itself : covers "text/html;level=1;q=0.5;level=2" "text/html;level=1;q=0.5;level=2" ≡ true
itself = covers_itself (media "text/html;level=1;q=0.5;level=2")

-- A range weighs what its first `q` says, or 1000. Of several values under a name the first counts.
weights_and_values : (weight_of (media "a/b;q=0.5;q=1") ≡ 500) × (weight_of (media "a/b;p=0.5") ≡ 1000)
    × (first_value (codes "p") (media "a/b;p=x;p=y").pairs ≡ Some (codes "x")) × (first_value (codes "p") (media "a/b;q=x").pairs ≡ None)
weights_and_values = (refl, refl, refl, refl)

-- What ranges give offers.
weights_counted :
    -- `audio/basic` is preferred to any other audio type (RFC 9110, 12.5.1)
    (weighed "audio/*;q=0.2,audio/basic" "audio/basic,audio/mp4" ≡ 1000 ∷ 200 ∷ [])
    -- its table gives `text/html;level=3` the weight 0.7, which it had in RFC 7231; no range here says so, and `text/*` gives it 0.3
    × (weighed "text/*;q=0.3,text/plain;q=0.7,text/plain;format=flowed,text/plain;format=fixed;q=0.4,*/*;q=0.5"
    "text/plain;format=flowed,text/plain,text/html,image/jpeg,text/plain;format=fixed,text/html;level=3"
    ≡ 1000 ∷ 700 ∷ 300 ∷ 500 ∷ 400 ∷ 300 ∷ [])
    -- the table of RFC 7231 (5.3.2)
    × (weighed "text/*;q=0.3,text/html;q=0.7,text/html;level=1,text/html;level=2;q=0.4,*/*;q=0.5"
    "text/html;level=1,text/html,text/plain,image/jpeg,text/html;level=2,text/html;level=3" ≡ 1000 ∷ 700 ∷ 300 ∷ 500 ∷ 400
    ∷ 700 ∷ [])
    -- of two weights of a range the first counts, and of ranges as close the higher,
    × (weighed "text/html;q=0.2;q=0.9" "text/html" ≡ 200 ∷ [])
    × (weighed "text/html;q=0.2,text/html;q=0.9,text/html;q=0.5" "text/html" ≡ 900 ∷ [])
    -- and one of 0 rejects what a wider range accepts; `q` is taken with its backslashes, so that `\1` begins with no number
    × (weighed "*/*,text/html;q=0" "text/html" ≡ 0 ∷ []) × (weighed "text/html;q=\\1" "text/html" ≡ 0 ∷ [])
weights_counted = (refl, refl, refl, refl, refl, refl, refl)

-- Which offer is the best.
choices :
    -- `text/html` and `text/x-c` are preferred alike, then `text/x-dvi`, then `text/plain` (RFC 9110, 12.5.1)
    (best "text/plain;q=0.5,text/html,text/x-dvi;q=0.8,text/x-c" "text/plain,text/x-dvi,text/x-c" ≡ Some 2)
    × (best "text/plain;q=0.5,text/html,text/x-dvi;q=0.8,text/x-c" "text/plain,text/x-dvi" ≡ Some 1)
    -- the most specific range that covers an offer has precedence: first `text/plain;format=flowed`, then `text/plain`, then any other text
    × (best "text/*,text/plain,text/plain;format=flowed,*/*" "text/html,text/plain,text/plain;format=flowed" ≡ Some 2)
    × (best "text/*,text/plain,text/plain;format=flowed,*/*" "image/jpeg,text/html" ≡ Some 1)
    -- as axios sends it: the closer range decides, and parameters make it closer
    × (best "application/json,text/plain,*/*" "text/html,application/json" ≡ Some 1)
    × (best "text/html;level=2,text/html" "text/html,text/html;level=2" ≡ Some 1)
    -- of ranges as close the earlier decides, and of the same range twice the later counts
    × (best "text/plain,*/*;q=0.1,text/html" "text/html,text/plain" ≡ Some 1)
    × (best "text/plain,application/xml;q=1,text/plain" "application/xml,text/plain" ≡ Some 0)
    -- alike in all, the first offered is the best; if each offer weighs 0, none is the best, and neither is one of none
    × (best "*/*" "text/html,application/json" ≡ Some 0) × (best "application/json,text/html;q=0" "text/html,image/jpeg" ≡ None)
    × (best_offer (all "*/*") [] ≡ None)
choices = (refl, refl, refl, refl, refl, refl, refl, refl, refl, refl, refl)

-- The best of two is the second, which weighs more than 0.
acceptable : (offer : MediaType) × (slice_get (all "text/html,image/jpeg") 1 ≡ Some offer)
    × (0 < given_weight (all "*/*,text/html;q=0") offer)
acceptable = best_is_acceptable (all "*/*,text/html;q=0") (all "text/html,image/jpeg") 1 refl

-- The best of two isn't the first, which weighs 0.
not_acceptable : ¬ (best "*/*,text/html;q=0" "text/html,image/jpeg" ≡ Some 0)
not_acceptable is = search (best_is_acceptable, same_Some, rules)

-- No order begins with another than the best.
not_in_order : ¬ (AreInOrder (all "application/json,*/*") (all "text/html,application/json") (0 ∷ 1 ∷ []))
not_in_order are = search (best_is_first, rules)

-- An entry that covers no offer changes nothing, so `text/html` stays the best.
stranger : best "text/html,image/jpeg;q=0,*/*;q=0.1" "text/html" ≡ Some 0
stranger = search (stranger_changes_nothing, rules)

-- ---- why an offer is chosen

-- Some strings are weights (RFC 9110, 12.4.2): a fourth decimal is too many, nothing is above 1, and a digit comes before the dot, and no
-- other byte.
qvalues : (list_all is_qvalue (codes "0" ∷ codes "0." ∷ codes "0.125" ∷ codes "1.000" ∷ []) ≡ true)
    × (list_any is_qvalue (codes "0.1250" ∷ codes "1.5" ∷ codes "2" ∷ codes ".5" ∷ codes "-1" ∷ codes "high" ∷ []
    ∷ codes "0x5" ∷ codes "0.x" ∷ []) ≡ false)
qvalues = (refl, refl)

-- A rank says that the range that decides is the second of two, or that there is none.
said : (ranked_as 2 (500, 2, 0, 1) 3 ≡ record { offer = 3; weight = 500; range = Some 1 })
    × (ranked_as 2 (0, 0, 0, 0) 3 ≡ record { offer = 3; weight = 0; range = None })
said = (refl, refl)

-- A ranking of one offer has it alone.
one_offer : IsRanking (all "a/b,c/d;q=0.5") (all "c/d") (record { offer = 0; weight = 500; range = Some 1 } ∷ [])
one_offer = record {
  order = 0 ∷ [];
  best_first = λ i j d before within. absurd (omega (arith, before, within));
  all = λ at. (
    All-contains (λ n. n < 1) (0 ∷ []) at (λ k d within. grind (arith, within)),
    λ within. (0, omega arith, omega (arith, within)),
  );
  given = refl;
}

-- A list that leaves the offer out is no ranking.
no_offer : ¬ (IsRanking (all "a/b,c/d;q=0.5") (all "c/d") [])
no_offer is =
    let inside = (is.all 0).1 (omega arith) in
    absurd (omega (arith, inside.1, simp length-map at (ap length is.given)))

-- ---- two offers

-- `a/b` is better than `c/d`, which is offered first.
abbrev better : List MediaType
better = all "a/b,c/d;q=0.5"

abbrev offered : List MediaType
offered = all "c/d,a/b"

-- Two numbers are in order if the first comes before the second.
two_ordered : (Before : ℕ → ℕ → Type 0) (x y : ℕ) → Before x y → AllPairs Before (x ∷ y ∷ [])
two_ordered Before x y is zero (suc zero) d before within = is
two_ordered Before x y is zero zero d before within = absurd (omega (arith, before))
two_ordered Before x y is zero (suc (suc j)) d before within = absurd (omega (arith, within))
two_ordered Before x y is (suc i) j d before within = absurd (omega (arith, before, within))

-- Each of two positions is one of them.
both : (at : ℕ) → at < 2 → Contains (1 ∷ 0 ∷ []) at
both zero within = (1, omega arith, refl)
both (suc zero) within = (0, omega arith, refl)
both (suc (suc at)) within = absurd (omega (arith, within))

-- Both offers weigh more than 0.
both_weigh : (at : ℕ) → Contains (1 ∷ 0 ∷ []) at → 0 < (merit_at better offered at).0
both_weigh at (zero, within, is) = rw (sym is) (omega arith)
both_weigh at (suc zero, within, is) = rw (sym is) (omega arith)
both_weigh at (suc (suc k), within, is) = absurd (omega (arith, within))

-- A ranking has both, the better one first.
two_ranked : IsRanking better offered
    (record { offer = 1; weight = 1000; range = Some 0 } ∷ record { offer = 0; weight = 500; range = Some 1 } ∷ [])
two_ranked = record {
  order = 1 ∷ 0 ∷ [];
  best_first = two_ordered (ComesBefore (merit_at better offered)) 1 0 (inl refl);
  all = λ at. (All-contains (λ n. n < 2) (1 ∷ 0 ∷ []) at (λ k d within. grind (arith, within)), both at);
  given = refl;
}

-- No ranking has the other first.
not_ranked : ¬ (IsRanking better offered
    (record { offer = 0; weight = 500; range = Some 1 } ∷ record { offer = 1; weight = 1000; range = Some 0 } ∷ []))
not_ranked is =
    let first = λ (ranking : List RankedOffer). get_or (map (λ one. one.offer) ranking) 0 0 in
    absurd (omega (arith, ap first (one_ranking better offered _ _ two_ranked is)))

-- Both are in order.
two_in_order : AreInOrder better offered (1 ∷ 0 ∷ [])
unfolding two_ranked
two_in_order = search (two_ranked, both_weigh, both, weighs_within, rules)

-- An order with one of them alone isn't one.
one_left_out : ¬ (AreInOrder better offered (1 ∷ []))
one_left_out are =
    let some = All-contains (λ n. 0 < n) (1 ∷ []) 0 (λ k d within. grind (arith, within)) ((are.all 0).1 (omega arith)) in
    absurd (omega (arith, some))

-- The first of both is the best.
best_of_two : best "a/b,c/d;q=0.5" "c/d,a/b" ≡ Some 1
best_of_two = best_is_ranked_first better offered _ two_ranked
