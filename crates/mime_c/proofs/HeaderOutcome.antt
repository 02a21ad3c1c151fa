-- `mime_accept` and `mime_best` have one outcome, unless memory runs out.
use Rattle.std.proofs.Common.{◌≡◌, ◌≢◌, ℕ, ◌⊎◌, inl, inr, Bool, List, [], ◌∷◌, Option, Some, None, length, refl, sym, ap, ◌∙◌, subst, arith}
use Rattle.std.proofs.Common.{⊎_elim, rules}
use Rattle.std.specs.Prelude.{MatchOption}
use Rattle.std.proofs.{lemmas.List.nil_from_length, lemmas.Option.same_Some}
use Rattle.mime.specs.Values.{MediaType}
use Rattle.mime_http.specs.{HttpList.Header, HttpList.IsHeader, HttpList.IsFirstBad, Ranges.best_offer}
use Rattle.mime_http.proofs.HandedOut.{header_of, one_header, one_first_bad}
use Rattle.mime_c.specs.Strings.{strings, overwritten}
use Rattle.mime_c.specs.HeaderAnswers.{ranges_texts, AreRanges, are_ranges, ranges_have_no_memory, header_lines, OfOffers, are_offers}
use Rattle.mime_c.specs.HeaderAnswers.{an_offer_is_bad, offers_have_no_memory, IsBest, best_is, none_is_best}
use Rattle.mime_c.specs.Laws.{HasOne, AcceptsToOne, BestIsOne}
use Rattle.mime_c.specs.declared.TheConstants.{MIME_OK, MIME_NO_MEMORY, MIME_BAD_OFFER}
use Rattle.mime_c.proofs.{OneOutcome.one_is, OneOutcome.one_in_room, HeaderRoom.ranges_come_back}

-- ---- ranges

module _ (line old : List ℕ) where
  -- The ranges of a line are written in one way.
  one_list : HasOne (AreRanges line old)
  one_list = (_, _, (λ same. omega (arith, same)), are_ranges is.0 is.1 (ranges_come_back (line ∷ []) is.0 is.1), only)
    where
      is : (header : Header) × IsHeader (line ∷ []) header
      is = header_of (line ∷ [])

      held_of : Header → List ℕ × ℕ × ℕ
      held_of header =
          let bytes = strings (ranges_texts header.ranges) in (overwritten bytes old, length bytes, length header.bad)

      only : (n : ℕ) (held : List ℕ × ℕ × ℕ) → n ≢ MIME_NO_MEMORY → AreRanges line old n held
          → (n ≡ MIME_OK) × (held ≡ held_of is.0)
      only n held some (are_ranges two too back) = (refl, ap held_of (one_header (line ∷ []) two is.0 too is.1))
      only n held some (ranges_have_no_memory none) = absurd (some refl)

-- `mime_accept` has one outcome.
pub accepts_to_one : AcceptsToOne
accepts_to_one line old = one_in_room (one_list line old)

-- ---- lists of offers

-- A list is empty or isn't.
pub empty_or_not : {X : Type 0} (xs : List X) → (xs ≡ []) ⊎ (xs ≢ [])
empty_or_not [] = inl refl
empty_or_not (x ∷ xs) = inr (λ is. absurd (omega (arith, ap length is)))

-- Something is found or nothing is.
pub some_or_none : {X : Type 0} (found : Option X) → ((x : X) × (found ≡ Some x)) ⊎ (found ≡ None)
some_or_none (Some x) = inl (x, refl)
some_or_none None = inr refl

-- If a list has no first bad offer, none of its offers is bad.
pub none_bad : (list : List ℕ) (first : Option ℕ) {count : ℕ} (offered : Header)
    → MatchOption first (count ≡ 0) (IsFirstBad (list ∷ []))
    → ((at : ℕ) → first ≢ Some at) → count ≡ length offered.bad → offered.bad ≡ []
none_bad list None offered is other counted = nil_from_length offered.bad (sym counted ∙ is)
none_bad list (Some at) offered is other counted = absurd (other at refl)

-- A call that has read a header and a list of good offers answers what it says of the ranges of both.
pub of_good : {Held : Type 0} {is_there : Bool} {line list : List ℕ} {failed : ℕ → Held}
    {Is : List MediaType → List MediaType → ℕ → Held → Type 0} {answer : ℕ} {held : Held} {own theirs given : List MediaType}
    → ((header offered : Header) × IsHeader (header_lines is_there line) header × IsHeader (list ∷ []) offered × (offered.bad ≡ [])
    × (own ≡ header.ranges) × (theirs ≡ offered.ranges))
    → given ≡ theirs → Is own given answer held → OfOffers is_there line list failed Is answer held
of_good {Is = Is} {answer = answer} {held = held} {own = own} (header, offered, is, of, good, ranges, others) same says =
    are_offers header offered _ _ is of good
    (subst (λ it. Is it offered.ranges answer held) ranges (subst (λ it. Is own it answer held) (same ∙ others) says))

-- A call that can't go on answers what each such call answers.
pub of_stopped : {Held : Type 0} {is_there : Bool} {line list : List ℕ} {failed : ℕ → Held}
    {Is : List MediaType → List MediaType → ℕ → Held → Type 0} {answer at : ℕ}
    → OfOffers is_there line list (λ at. at) (λ ranges offered answer at. ⊥) answer at
    → OfOffers is_there line list failed Is answer (failed at)
of_stopped (are_offers header offered _ _ is of good none) = absurd none
of_stopped (an_offer_is_bad at first) = an_offer_is_bad at first
of_stopped (offers_have_no_memory needs) = offers_have_no_memory needs

-- Two headers of the same lines are the same.
pub same_header : {lines : List (List ℕ)} {one two : Header} → IsHeader lines one → IsHeader lines two → two ≡ one
same_header {lines} {one} {two} is too = one_header lines two one too is

-- A call that reads offers has one outcome if it has one for all ranges and offers.
module _ {Held : Type 0} (is_there : Bool) (line offers : List ℕ) (failed : ℕ → Held)
    {Is : List MediaType → List MediaType → ℕ → Held → Type 0}
    (one : (ranges offers : List MediaType) → HasOne (Is ranges offers)) where
  -- What such a call answers.
  abbrev Outcome : ℕ → Held → Type 0
  Outcome = OfOffers is_there line offers failed Is

  -- A list of good offers has no other outcome.
  only_good : (header offered : Header) → IsHeader (header_lines is_there line) header → IsHeader (offers ∷ []) offered
      → offered.bad ≡ [] → (n : ℕ) (held : Held) → n ≢ MIME_NO_MEMORY → Outcome n held
      → (n ≡ (one header.ranges offered.ranges).0) × (held ≡ (one header.ranges offered.ranges).1)
  only_good header offered is of good n held some (are_offers another others _ _ too again fine has) =
      (one header.ranges offered.ranges).4 n held some (subst (λ (it : Header). Is header.ranges it.ranges n held) (same_header of again)
      (subst (λ (it : Header). Is it.ranges others.ranges n held) (same_header is too) has))
  only_good header offered is of good n held some (an_offer_is_bad at first) = absurd (((one_first_bad _ _ of).1 at first).0 good)
  only_good header offered is of good n held some (offers_have_no_memory none) = absurd (some refl)

  -- A list with a bad offer has no other outcome.
  only_bad : (at : ℕ) → IsFirstBad (offers ∷ []) at → (n : ℕ) (held : Held) → n ≢ MIME_NO_MEMORY → Outcome n held
      → (n ≡ MIME_BAD_OFFER) × (held ≡ failed at)
  only_bad at first n held some (are_offers header offered _ _ is of good has) = absurd (((one_first_bad _ _ of).1 at first).0 good)
  only_bad at first n held some (an_offer_is_bad other too) =
      (refl, ap failed (((one_first_bad _ _ (header_of (offers ∷ [])).1).1 at first).1 other too))
  only_bad at first n held some (offers_have_no_memory none) = absurd (some refl)

  -- A call that reads offers has exactly one outcome, if what it goes on with has.
  pub one_of_offers : HasOne Outcome
  one_of_offers =
      let header = header_of (header_lines is_there line) in
      let offered = header_of (offers ∷ []) in
      let of = offered.1 in
      ⊎_elim
      (λ good. let has = one header.0.ranges offered.0.ranges in
      (_, _, has.2, are_offers header.0 offered.0 _ _ header.1 of good has.3, only_good header.0 offered.0 header.1 of good))
      (λ bad. let first = (one_first_bad _ _ of).0 bad in
      (_, _, (λ same. omega (arith, same)), an_offer_is_bad first.0 first.1, only_bad first.0 first.1)) (empty_or_not offered.0.bad)

-- ---- the best offer

-- Two outcomes of a choice are the same.
same_choice : {ranges offers : List MediaType} {n m at other : ℕ} → IsBest ranges offers n at → IsBest ranges offers m other
    → (m ≡ n) × (other ≡ at)
same_choice one two = search (rules, same_Some)

-- Ranges and offers have one best offer or none.
one_best : (ranges offers : List MediaType) → HasOne (IsBest ranges offers)
one_best ranges offers = ⊎_elim
    (λ found. one_is (λ same. omega (arith, same)) (best_is found.0 found.1) (λ n at h k. same_choice))
    (λ none. one_is (λ same. omega (arith, same)) (none_is_best none) (λ n at h k. same_choice))
    (some_or_none (best_offer ranges offers))

-- `mime_best` has one outcome.
pub best_is_one : BestIsOne
best_is_one is_there line offers = one_of_offers is_there line offers (λ at. at) one_best
