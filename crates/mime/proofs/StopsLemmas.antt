-- The bytes that a search for the end of a token, or of quoted text, passes.
use Rattle.std.proofs.Common.{◌≡◌, ℕ, ◌<◌, List, [], ◌∷◌, length, take, Bool, true, false, not, refl, sym, ap, ◌∙◌, subst, arith, inl, inr}
use Rattle.std.specs.Prelude.{◌||◌, ◌↔◌, nat_lt}
use Rattle.std.specs.{Char.to_ascii_lowercase, List.list_all, List.prefix_len, List.range_with_len, Int.Bits.bit_or, Int.Bits.or_zero_r}
use Rattle.std.proofs.lemmas.Bool.{lt-ltb, cases_lt, not-true, true≢false}
use Rattle.std.proofs.lemmas.Bool.Decides.{nat_tests}
use Rattle.std.proofs.Math.Bool.{or-true}
use Rattle.std.proofs.Math.Numerals.{one-add}
use Rattle.std.proofs.lemmas.Nat.{le_or_l}
use Rattle.mime_search.proofs.IgnoringCase.{at_byte}
use Rattle.mime.specs.{Bytes.is_token_byte, Bytes.is_quoted_byte, Bytes.is_quoted_text_byte, Inner.ByteClasses.is_token_except_plus}
use Rattle.mime.specs.{Values.lowered, declared.value.kept.TheConstants.CAPITALS}
use Rattle.mime_search.specs.Classes.{end_of_run, is_outside_range, is_outside, is_stop}
use Rattle.mime_search.specs.declared.class.Class.{Class}
use Rattle.mime_search.specs.declared.class.Range.{Range}
use Rattle.mime_search.specs.declared.class.TheConstants.{TOKEN_STOPS, TEXT_STOPS}

-- What is past all ranges is outside.
past_range : (range : Range) (b : ℕ) → range.1 < b → is_outside_range range b ≡ true
past_range range b past = rw (lt-ltb range.1 b past) (or-true (nat_lt b range.0))

-- A byte is inside the ranges only if a wider class has it: tried on all bytes.
pub in_ranges : (class : Class) (wider : ℕ → Bool) → class.folded.1 < 256 → class.second.1 < 256 → class.third.1 < 256
    → list_all (λ b. is_outside class b || wider b) (range_with_len 0 256) ≡ true → (b : ℕ) → is_outside class b ≡ false
    → wider b ≡ true
in_ranges class wider one two three all b inside =
    elim (cases_lt b 256) [
      | inl within ↦ ap (λ t. t || wider b) (sym inside) ∙ at_byte (λ x. is_outside class x || wider x) b within all
      | inr past ↦
          let folded = past_range class.folded (bit_or b class.fold) (omega (arith, one, past, le_or_l b class.fold)) in
          let second = past_range class.second b (omega (arith, two, past)) in
          let third = past_range class.third b (omega (arith, three, past)) in
          let outside : is_outside class b ≡ true = rw (folded, second, third) refl in
          absurd (true≢false (sym outside ∙ inside))
    ]

-- A search for the end of common token bytes passes only token bytes other than the plus.
pub are_token_bytes : (b : ℕ) → not (is_stop TOKEN_STOPS b) ≡ true → is_token_except_plus b ≡ true
unfolding is_token_byte
are_token_bytes b go = in_ranges TOKEN_STOPS is_token_except_plus (omega arith) (omega arith) (omega arith) refl b (not-true _ go)

-- A search for the end of quoted text passes only bytes of quoted text.
pub are_quoted_text : (b : ℕ) → not (is_stop TEXT_STOPS b) ≡ true → is_quoted_text_byte b ≡ true
unfolding is_quoted_byte
are_quoted_text b go = in_ranges TEXT_STOPS is_quoted_text_byte (omega arith) (omega arith) (omega arith) refl b (not-true _ go)

-- A search for a capital passes exactly the bytes that are in lowercase.
are_low : (b : ℕ) → (not (is_stop CAPITALS b) ≡ true) ↔ (to_ascii_lowercase b ≡ b)
are_low b = (λ go. grind (arith, nat_tests, go), λ low. grind (arith, nat_tests, or_zero_r b, low))

-- Bytes are in lowercase exactly if a run of those in lowercase has all.
low_bytes : (class : ℕ → Bool) → ((b : ℕ) → (class b ≡ true) ↔ (to_ascii_lowercase b ≡ b)) → (bytes : List ℕ)
    → (prefix_len class bytes ≡ length bytes) ↔ (lowered bytes ≡ bytes)
low_bytes class low [] = (λ _. refl, λ _. refl)
low_bytes class low (b ∷ bytes) = (
  λ all. grind (arith, nat_tests, one-add (prefix_len class bytes), (low b).0, (low_bytes class low bytes).0, all),
  λ same. grind (arith, nat_tests, one-add (prefix_len class bytes), (low b).1, (low_bytes class low bytes).1, same),
)

-- No capital is found in a text exactly if it is in lowercase.
pub no_capital_found : (text : List ℕ) → (end_of_run CAPITALS text 0 ≡ length text) ↔ (lowered text ≡ text)
no_capital_found text =
    let low = low_bytes (λ b. not (is_stop CAPITALS b)) are_low text in
    (λ all. low.0 (omega (arith, all)), λ same. omega (arith, low.1 same))

-- Bytes before the first one that isn't in lowercase are in lowercase.
low_before : (class : ℕ → Bool) → ((b : ℕ) → (class b ≡ true) ↔ (to_ascii_lowercase b ≡ b)) → (bytes : List ℕ)
    → lowered (take (prefix_len class bytes) bytes) ≡ take (prefix_len class bytes) bytes
low_before class low [] = refl
low_before class low (b ∷ bytes) = grind (arith, nat_tests, one-add (prefix_len class bytes), (low b).0, low_before class low bytes)

-- There is no capital before the one that is found.
pub no_capital_before : (text : List ℕ) → let end = end_of_run CAPITALS text 0 in lowered (take end text) ≡ take end text
no_capital_before text =
    let is_low : ℕ → Bool = λ b. not (is_stop CAPITALS b) in
    let same : prefix_len is_low text ≡ end_of_run CAPITALS text 0 = omega arith in
    subst (λ n. lowered (take n text) ≡ take n text) same (low_before is_low are_low text)
