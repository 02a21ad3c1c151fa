-- A weight that is read digit by digit is the number that its text begins with.
use Rattle.std.proofs.Common.{rules}
use Rattle.mime_http.specs.{Ranking.are_decimals, Ranking.is_qvalue, RangesLaws.zero, RangesLaws.one}
use Rattle.mime_http.proofs.Common.{Bool, IsQvalue, QvaluesAre, suc, zero as none, and_parts, cases_Bool, false, list_all, not, subst, true}
use Rattle.mime_http.proofs.Common.{true≢false, ⊎_elim, ◌||◌, ◌&&◌, List, WeightIsNumber, [], arith, codes, drop, fold, if◌then◌else◌}
use Rattle.mime_http.proofs.Common.{is_ascii_digit, length, nat_tests, one_digit, one_dot, read_number, refl, replicate, slice_index, sym}
use Rattle.mime_http.proofs.Common.{take, take_while, take_while-cons, thousandths_of, three_digits, two_digits, worth, zero_dot, ℕ, ◌*◌}
use Rattle.mime_http.proofs.Common.{◌++◌, ◌∙◌, ◌+◌, ◌-◌, ◌==◌, ◌∷◌, ◌≡◌, ◌≤◌, ◌/◌, mul-le-mul_left}

-- This is a number with one more digit.
abbrev step : ℕ → ℕ → ℕ
step n digit = 10 * n + (digit - 48)

-- These are the digits that bytes begin with.
abbrev digits : List ℕ → List ℕ
digits bytes = take_while is_ascii_digit bytes

-- ---- three digits after a dot

-- Digits without a unit are worth nothing.
no_unit : (bytes : List ℕ) → worth 0 bytes ≡ 0
no_unit [] = refl
no_unit (b ∷ bytes) = grind (arith, nat_tests, no_unit bytes)

-- This is a number with the first three digits more, or with zeros if there are fewer.
three_digits_more : (n : ℕ) (bytes : List ℕ) → fold step n (take 3 (digits bytes ++ codes "000")) ≡ 1000 * n + worth 100 bytes
three_digits_more n [] = omega arith
three_digits_more n (a ∷ []) = grind (arith, nat_tests)
three_digits_more n (a ∷ b ∷ []) = grind (arith, nat_tests)
three_digits_more n (a ∷ b ∷ c ∷ bytes) = simp take_while-cons (grind (arith, nat_tests, no_unit bytes))

-- Digits are worth at most ten of the first one's unit.
worth_most : (unit : ℕ) (bytes : List ℕ) → worth unit bytes ≤ 10 * unit
worth_most unit [] = omega arith
worth_most unit (b ∷ bytes) = search (worth_most (unit / 10) bytes, nat_tests, mul-le-mul_left, rules)

-- ---- from the first byte on

-- These are the digits after a dot that bytes begin with.
abbrev decimals : List ℕ → List ℕ
decimals bytes = if slice_index bytes 0 == 46 then digits (drop 1 bytes) else []

-- This is the number that goes on with bytes, in thousandths.
abbrev number_from : ℕ → List ℕ → ℕ
number_from n bytes = fold step n (digits bytes ++ take 3 (decimals (drop (length (digits bytes)) bytes) ++ codes "000"))

-- A number goes on with a digit, and else with its decimals.
number_goes_on : (n b : ℕ) (bytes : List ℕ) → number_from n (b ∷ bytes)
    ≡ (if is_ascii_digit b then number_from (step n b) bytes else fold step n (take 3 (decimals (b ∷ bytes) ++ codes "000")))
number_goes_on n b bytes = rw (take_while-cons is_ascii_digit b bytes) (grind arith)

-- What stands after a dot makes it no less.
no_less : (n : ℕ) (bytes : List ℕ) → 1000 * n ≤ number_from n bytes
no_less n [] = omega arith
no_less n (b ∷ bytes) = grind (arith, nat_tests, number_goes_on, no_less (step n b) bytes, three_digits_more)

-- The number of thousandths is read.
pub read_is : (text : List ℕ) → read_number text ≡ thousandths_of text
read_is [] = refl
read_is (b ∷ bytes) = grind (arith, nat_tests, number_goes_on, read_is bytes, no_less, three_digits_more, worth_most)

-- ---- what RFC 9110 allows

-- A digit is worth its number of the unit.
worth_digit : (unit a : ℕ) (bytes : List ℕ) → a ≤ 9 → worth unit ((48 + a) ∷ bytes) ≡ unit * a + worth (unit / 10) bytes
worth_digit unit a bytes few = grind (arith, nat_tests, few)

-- A weight is the number that it begins with.
pub weight_is_number : WeightIsNumber
weight_is_number text thousandths zero = refl
weight_is_number text thousandths zero_dot = refl
weight_is_number text thousandths (one_digit a first) =
    sym (read_is (codes "0." ++ ((48 + a) ∷ []))) ∙ omega (arith, worth_digit 100 a [] first)
weight_is_number text thousandths (two_digits a b first second) =
    sym (read_is (codes "0." ++ ((48 + a) ∷ (48 + b) ∷ [])))
    ∙ omega (arith, worth_digit 100 a ((48 + b) ∷ []) first, worth_digit 10 b [] second)
weight_is_number text thousandths (three_digits a b c first second third) =
    sym (read_is (codes "0." ++ ((48 + a) ∷ (48 + b) ∷ (48 + c) ∷ []))) ∙ omega (
      arith,
      worth_digit 100 a ((48 + b) ∷ (48 + c) ∷ []) first,
      worth_digit 10 b ((48 + c) ∷ []) second,
      worth_digit 1 c [] third,
    )
weight_is_number text thousandths one = refl
weight_is_number text thousandths (one_dot zeros few) = sym (read_is (codes "1." ++ replicate zeros 48))

-- ---- the weights that RFC 9110 allows, by their bytes

-- This is the test of a digit, as `are_decimals` has it.
abbrev is_digit : ℕ → Bool
is_digit a = a == 48 || (not false && is_ascii_digit a)

-- A digit has a number.
number_of_digit : (a : ℕ) → is_digit a ≡ true → (a - 48 ≤ 9) × (48 + (a - 48) ≡ a)
number_of_digit a is = grind (arith, nat_tests, is)

-- Zeros are a number of zeros.
are_zeros : (bytes : List ℕ) → list_all (λ b. b == 48 || (not true && is_ascii_digit b)) bytes ≡ true
    → replicate (length bytes) 48 ≡ bytes
are_zeros [] all = refl
are_zeros (b ∷ bytes) all =
    let parts = and_parts (b == 48 || (not true && is_ascii_digit b)) _ all in
    let zero : 48 ≡ b = grind (arith, nat_tests, parts.0) in λ i. zero i ∷ are_zeros bytes parts.1 i

-- Decimals are at most three digits after a dot, or zeros alone.
decimals_are : (zeros_alone : Bool) (dot : ℕ) (bytes : List ℕ) → are_decimals zeros_alone (dot ∷ bytes) ≡ true
    → (46 ≡ dot) × (length bytes ≤ 3) × (list_all (λ b. b == 48 || (not zeros_alone && is_ascii_digit b)) bytes ≡ true)
decimals_are zeros_alone dot bytes are = search (and_parts, nat_tests, rules)

-- A text is a qvalue if the same text is one.
respelled : {text other : List ℕ} {thousandths : ℕ} → IsQvalue text thousandths → text ≡ other
    → (number : ℕ) × IsQvalue other number
respelled {thousandths = thousandths} is same = (thousandths, subst (λ text. IsQvalue text thousandths) same is)

-- A text that begins with `0` and goes on with decimals is a qvalue.
below_1 : (more : List ℕ) → are_decimals false more ≡ true → (thousandths : ℕ) × IsQvalue (48 ∷ more) thousandths
below_1 [] are = (0, zero)
below_1 (dot ∷ bytes) are = let (is, few, all) = decimals_are false dot bytes are in by bytes is few all
  where
    by : (bytes : List ℕ) → 46 ≡ dot → length bytes ≤ 3 → list_all is_digit bytes ≡ true
        → (thousandths : ℕ) × IsQvalue (48 ∷ dot ∷ bytes) thousandths
    by [] is few all = (0, subst (λ b. IsQvalue (48 ∷ b ∷ []) 0) is zero_dot)
    by (a ∷ []) is few all =
        let one = number_of_digit a (and_parts (is_digit a) _ all).0 in
        respelled (one_digit (a - 48) one.0) (λ i. 48 ∷ is i ∷ one.1 i ∷ [])
    by (a ∷ b ∷ []) is few all =
        let rest = and_parts (is_digit a) _ all in
        let one = number_of_digit a rest.0 in
        let two = number_of_digit b (and_parts (is_digit b) _ rest.1).0 in
        respelled (two_digits (a - 48) (b - 48) one.0 two.0) (λ i. 48 ∷ is i ∷ one.1 i ∷ two.1 i ∷ [])
    by (a ∷ b ∷ c ∷ []) is few all =
        let rest = and_parts (is_digit a) _ all in
        let last = and_parts (is_digit b) _ rest.1 in
        let one = number_of_digit a rest.0 in
        let two = number_of_digit b last.0 in
        let three = number_of_digit c (and_parts (is_digit c) _ last.1).0 in
        respelled (three_digits (a - 48) (b - 48) (c - 48) one.0 two.0 three.0) (λ i. 48 ∷ is i ∷ one.1 i ∷ two.1 i
        ∷ three.1 i ∷ [])
    by (a ∷ b ∷ c ∷ d ∷ bytes) is few all = absurd (omega (arith, few))

-- A text that begins with `1` and goes on with zeros is a qvalue.
at_1 : (more : List ℕ) → are_decimals true more ≡ true → IsQvalue (49 ∷ more) 1000
at_1 [] are = one
at_1 (dot ∷ bytes) are =
    let (is, few, all) = decimals_are true dot bytes are in
    subst (λ text. IsQvalue text 1000) (λ i. 49 ∷ is i ∷ are_zeros bytes all i) (one_dot (length bytes) few)

-- The test passes `1.` and at most three zeros.
passes_zeros : (zeros : ℕ) → zeros ≤ 3 → is_qvalue (codes "1." ++ replicate zeros 48) ≡ true
passes_zeros none few = refl
passes_zeros (suc none) few = refl
passes_zeros (suc (suc none)) few = refl
passes_zeros (suc (suc (suc none))) few = refl
passes_zeros (suc (suc (suc (suc more)))) few = absurd (omega (arith, few))

-- The qvalues are the texts that the test passes.
pub qvalues_are : QvaluesAre
qvalues_are text = (is_one text, λ is. passes text is.0 is.1)
  where
    passes : (text : List ℕ) (thousandths : ℕ) → IsQvalue text thousandths → is_qvalue text ≡ true
    passes text thousandths zero = refl
    passes text thousandths zero_dot = refl
    passes text thousandths (one_digit a first) = grind (arith, nat_tests)
    passes text thousandths (two_digits a b first second) = grind (arith, nat_tests)
    passes text thousandths (three_digits a b c first second third) = grind (arith, nat_tests)
    passes text thousandths one = refl
    passes text thousandths (one_dot zeros few) = passes_zeros zeros few

    is_one : (text : List ℕ) → is_qvalue text ≡ true → (thousandths : ℕ) × IsQvalue text thousandths
    is_one [] is = absurd (true≢false (sym is))
    is_one (b ∷ more) is = ⊎_elim
        (λ first. let it = below_1 more (grind (arith, nat_tests, is, first)) in
        (it.0, subst (λ b. IsQvalue (b ∷ more) it.0) (grind (arith, nat_tests, first)) it.1))
        (λ other. (
          1000,
          subst (λ b. IsQvalue (b ∷ more) 1000) (grind (arith, nat_tests, is, other)) (at_1 more (grind (arith, nat_tests, is, other))),
        )) (cases_Bool (b == 48))
