-- A subtype is passed plus by plus, or its last pluses at once.
use Rattle.std.proofs.Common.{◌≡◌, ◌≢◌, ℕ, ◌+◌, ◌-◌, Bool, true, false, eqb, List, [], ◌∷◌, ◌++◌, length, Option, Some, None, refl, sym, ap}
use Rattle.std.proofs.Common.{◌∙◌, subst, arith, append_assoc, length-append, ne_eqb, rules}
use Rattle.std.specs.Prelude.{IsTrue, IsFalse, not, MatchOption}
use Rattle.std.specs.{List.list_all, Option.option_eq}
use Rattle.std.proofs.lemmas.Bool.{and_from, and_parts, true≢false, not-true, false_from_ne_true}
use Rattle.mime.specs.Bytes.{is_token_byte, plus_byte}
use Rattle.mime.specs.Values.{last_plus}
use Rattle.mime.specs.Inner.Remaining.{Remaining}
use Rattle.mime.specs.Inner.ByteClasses.{is_token_except_plus, token_bytes}
use Rattle.mime.specs.Inner.Scanning.{Given, GivesFirst, Passing, Passes, PassesSubtype, PassesPluses}
use Rattle.mime.proofs.ScanLemmas.Passing.{stopped_by, passing_with, passing_more, passes_to, reached}

-- ---- the last plus

-- The last plus of bytes is that of the later ones, if they have one.
last_plus-later : (at : ℕ) (xs ys : List ℕ) (found : ℕ) → last_plus (at + length xs) ys ≡ Some found
    → last_plus at (xs ++ ys) ≡ Some found
last_plus-later at [] ys found is = subst (λ n. last_plus n ys ≡ Some found) (omega arith) is
last_plus-later at (x ∷ xs) ys found is =
    rw (last_plus-later (at + 1) xs ys found (subst (λ n. last_plus n ys ≡ Some found) (omega arith) is)) refl

-- A byte of a token other than the plus is a token byte.
pub token_byte : (b : ℕ) → is_token_except_plus b ≡ true → is_token_byte b ≡ true
token_byte b is = (and_parts (is_token_byte b) _ is).0

-- A byte of a token other than the plus is in both kinds of runs.
pub token_bytes-wider : (with_plus : Bool) (b : ℕ) → is_token_except_plus b ≡ true → token_bytes with_plus b ≡ true
token_bytes-wider with_plus b is = search rules

-- Such bytes have no last plus.
no_plus : (at : ℕ) (xs : List ℕ) → IsTrue (list_all is_token_except_plus xs) → last_plus at xs ≡ None
no_plus at [] all = refl
no_plus at (x ∷ xs) all =
    let parts = and_parts (is_token_except_plus x) (list_all is_token_except_plus xs) all in
    let other : eqb x plus_byte ≡ false = not-true _ (and_parts (is_token_byte x) _ parts.0).1 in
    rw (no_plus (at + 1) xs parts.1, other) refl

-- The last plus of bytes stays that if such bytes follow.
last_plus-run : (at : ℕ) (xs ys : List ℕ) → IsTrue (list_all is_token_except_plus ys) → last_plus at (xs ++ ys) ≡ last_plus at xs
last_plus-run at [] ys all = no_plus at ys all
last_plus-run at (x ∷ xs) ys all = rw (last_plus-run (at + 1) xs ys all) refl

-- The plus is a token byte.
pub is_token_plus : is_token_byte plus_byte ≡ true
unfolding is_token_byte
is_token_plus = refl

-- Token bytes were given so far, and then others up to a plus.
abbrev pub passing_plus : {old mid new : Remaining} {stop : Option ℕ} → Passing is_token_byte old mid
    → Passes is_token_except_plus mid new stop → option_eq eqb stop (Some plus_byte) ≡ true → Passing is_token_byte old new
passing_plus {old} {mid} {new} {stop} p passes test =
    let given = subst (λ s. Given mid new passes.run s) (stopped_by plus_byte stop test) passes.given in
    passing_with token_byte p (record { run = passes.run; of_class = passes.of_class; given = given }) is_token_plus

-- Bytes up to a plus, and a run after it, have the last plus of that plus and the run.
pub last_plus-run_after : (at : ℕ) (xs ys run : List ℕ) (position count : ℕ) → at + (length xs + length ys) ≡ position
    → ((from : ℕ) → last_plus from (plus_byte ∷ run) ≡ Some (from + count))
    → last_plus at ((xs ++ (ys ++ (plus_byte ∷ []))) ++ run) ≡ Some (position + count)
last_plus-run_after at xs ys run position count is last =
    let grouped : (xs ++ (ys ++ (plus_byte ∷ []))) ++ run ≡ (xs ++ ys) ++ (plus_byte ∷ run) = simp append_assoc in
    ap (last_plus at) grouped ∙ last_plus-later at (xs ++ ys) (plus_byte ∷ run) (position + count)
    (last (at + length (xs ++ ys)) ∙ ap (λ n. Some (n + count)) (omega (arith, is, length-append xs ys)))

-- ---- many pluses

-- After a plus nothing is passed yet.
pub pluses_none : (now : Remaining) → PassesPluses now now 0
pluses_none now = record {
  passing = record { run = []; of_class = refl; given = record { bytes = refl; counted = omega arith } };
  last = λ at. ap Some (omega arith);
  within = omega arith;
}

-- A plus more is passed.
pub pluses_plus : {old mid new : Remaining} {b count : ℕ} → PassesPluses old mid count → GivesFirst mid new (Some b)
    → b ≡ plus_byte → PassesPluses old new (new.count - old.count)
pluses_plus {old} {mid} {new} {b} {count} p gives is =
    let passing = passing_more p.passing gives (ap is_token_byte is ∙ is_token_plus) in
    let size : length passing.run ≡ new.count - old.count = omega (arith, passing.given.counted) in
    record {
      passing = passing;
      last = λ at.
          last_plus-later at (plus_byte ∷ p.passing.run) (b ∷ []) (at + (new.count - old.count))
          (rw is (ap Some (omega (arith, p.passing.given.counted, gives.0.counted))));
      within = omega (arith, size);
    }

-- Another byte of a token is passed.
pub pluses_other : {old mid new : Remaining} {b count : ℕ} → PassesPluses old mid count → GivesFirst mid new (Some b)
    → is_token_byte b ≡ true → b ≢ plus_byte → PassesPluses old new count
pluses_other {old} {mid} {new} {b} {count} p gives token other =
    let passing = passing_more p.passing gives token in
    let outside : is_token_except_plus b ≡ true = and_from _ _ token (ap not (ne_eqb b plus_byte other)) in
    record {
      passing = passing;
      last = λ at. last_plus-run at (plus_byte ∷ p.passing.run) (b ∷ []) (and_from _ true outside refl) ∙ p.last at;
      within = omega (arith, p.within, length-append p.passing.run (b ∷ []));
    }

-- ---- a subtype

-- Token bytes were given so far, and then others up to the end, or to a byte that is no plus.
pub subtype_at : {old mid new : Remaining} (stop plus : Option ℕ) (at : ℕ) → (p : Passing is_token_byte old mid)
    → last_plus at p.run ≡ plus
    → Passes is_token_except_plus mid new stop → option_eq eqb stop (Some plus_byte) ≡ false → PassesSubtype at old new (plus, stop)
subtype_at {new = new} stop plus at p is passes other = record {
  passes = passes_to stop token_byte p (reached passes) (ends stop passes.stopped other);
  plus = sym (last_plus-run at p.run passes.run passes.of_class ∙ is);
}
  where
    ends : (stop : Option ℕ) → MatchOption stop (new.left ≡ []) (λ b. IsFalse (is_token_except_plus b))
        → option_eq eqb stop (Some plus_byte) ≡ false → MatchOption stop (new.left ≡ []) (λ b. IsFalse (is_token_byte b))
    ends None stopped other = stopped
    ends (Some b) stopped other = false_from_ne_true _ (λ token. true≢false (sym (and_from _ _ token (ap not other)) ∙ stopped))
