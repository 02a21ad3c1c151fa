-- What a pass over a reader's bytes has given so far, one byte or one run more, and at its end.
use Rattle.std.proofs.lemmas.Grind.{common_steps}
use Rattle.std.proofs.lemmas.Bool.{and_from}
use Rattle.std.proofs.lemmas.List.Folds.{list_all-append}
use Rattle.std.proofs.lemmas.List.Sums.{prefix_len-le-length}
use Rattle.std.proofs.lemmas.List.{take-append-drop, drop-drop, length-take-le}
use Rattle.std.proofs.Common.{◌≡◌, ℕ, zero, suc, get_or, ◌+◌, ◌-◌, ◌<◌, Bool, true, false, cond, eqb, List, [], ◌∷◌, ◌++◌, length, Option}
use Rattle.std.proofs.Common.{Some, None, refl, sym, ap, ◌∙◌, subst, arith, append-nil, length-append, take, drop, ◌≤◌, rules}
use Rattle.std.specs.Prelude.{IsTrue, IsFalse, ◌&&◌, MatchOption}
use Rattle.std.specs.{List.list_all, List.prefix_len, Option.option_eq}
use Rattle.mime.specs.Bytes.{is_quoted_byte, is_quoted_text_byte, backslash_byte}
use Rattle.mime.specs.Inner.Quoted.{awaits_next, takes, takes_all, awaits_after, IsOpenContent, continues}
use Rattle.mime.specs.Inner.Remaining.{Remaining, reader_at}
use Rattle.mime.specs.Inner.Scanning.{Given, GivesFirst, Reaches, Passing, Passes, PassesContent}
use Rattle.mime.proofs.BytesLemmas.{list_all-wider}
use Rattle.mime.proofs.GrammarLemmas.Content.{takes-backslash, takes_all-text, awaits_after-text, awaits_after-append, takes_all-append}
use Rattle.mime.proofs.GrammarLemmas.Content.{not_taken}

-- A run, and what was given from where it ended.
pub given_then : {old mid new : Remaining} {xs ys : List ℕ} {stop : Option ℕ}
    → Given old mid xs None → Given mid new ys stop → Given old new (xs ++ ys) stop
given_then {new} {xs} {ys} {stop} g h = grind (arith, common_steps)

-- A run with the byte that ended it is a run.
pub given_whole : {old new : Remaining} {xs : List ℕ} {b : ℕ} → Given old new xs (Some b) → Given old new (xs ++ b ∷ []) None
given_whole {new} {xs} {b} g = grind (arith, common_steps)

-- A run of a class, and the next byte or the end.
pub reaches_next : {class : ℕ → Bool} {old mid new : Remaining} {stop : Option ℕ} → Passing class old mid
    → GivesFirst mid new stop → Reaches class old new stop
reaches_next p first = record { run = p.run; of_class = p.of_class; given = rw (sym (append-nil p.run)) (given_then p.given first.0) }

-- What is counted and what is left make one sum.
pub given_sum : {old new : Remaining} {xs : List ℕ} {stop : Option ℕ} → Given old new xs stop
    → new.count + length new.left ≡ old.count + length old.left
given_sum g = omega (arith, g.counted, simp length-append at (ap length g.bytes))

-- What was given is no longer left.
pub given_less : {old new : Remaining} {xs : List ℕ} {b : ℕ} → Given old new xs (Some b) → length new.left < length old.left
given_less g = omega (arith, g.counted, given_sum g)

-- If the test holds, this byte stopped the pass.
pub stopped_by : (byte : ℕ) (stop : Option ℕ) → option_eq eqb stop (Some byte) ≡ true → stop ≡ Some byte
stopped_by byte stop test = search rules

-- All bytes before the first that fails a test pass it.
passes_before : (p : ℕ → Bool) (xs : List ℕ) (n : ℕ) → n ≤ prefix_len p xs → list_all p (take n xs) ≡ true
passes_before p xs zero within = refl
passes_before p [] (suc n) within = refl
passes_before p (x ∷ xs) (suc n) within = go (p x) refl within (passes_before p xs n)
  where
    go : (b : Bool) → p x ≡ b → suc n ≤ cond b (1 + prefix_len p xs) 0
        → (n ≤ prefix_len p xs → list_all p (take n xs) ≡ true) → (p x && list_all p (take n xs)) ≡ true
    go true is within rest = and_from (p x) _ is (rest (omega (arith, within)))
    go false is within rest = absurd (omega (arith, within))

-- Bytes of a class are skipped, at most up to the end of their run.
pub passing_skip : (class : ℕ → Bool) (text : List ℕ) (at to before : ℕ) → at ≤ length text → at ≤ to
    → to ≤ at + prefix_len class (drop at text) → Passing class (reader_at text at before) (reader_at text to before)
passing_skip class text at to before within least most =
    let bytes = drop at text in
    let n = to - at in
    let there : at + n ≡ to = omega (arith, least) in
    let room : n ≤ length bytes = omega (arith, most, prefix_len-le-length class bytes) in
    record {
      run = take n bytes;
      of_class = passes_before class bytes n (omega (arith, most));
      given = record {
        bytes = sym (take-append-drop n bytes) ∙ ap (λ t. take n bytes ++ t) (drop-drop n at text ∙ ap (λ m. drop m text) there);
        counted = omega (arith, length-take-le n bytes room, there);
      };
    }

-- The byte at a reader's position is given.
pub gives_at : (text : List ℕ) (at before : ℕ) → at < length text
    → GivesFirst (reader_at text at before) (reader_at text (at + 1) before) (Some (get_or text at 0))
gives_at text at before room = grind (arith, common_steps)

-- Nothing was skipped.
pub passing_none : (class : ℕ → Bool) (now : Remaining) → Passing class now now
passing_none class now = record { run = []; of_class = refl; given = record { bytes = refl; counted = omega arith } }

-- a run of a class is one of a wider class
abbrev pub reaches_wider : {class wider : ℕ → Bool} {old new : Remaining} {stop : Option ℕ}
    → ((b : ℕ) → class b ≡ true → wider b ≡ true) → Reaches class old new stop → Reaches wider old new stop
reaches_wider {class} {wider} within p = record {
  run = p.run;
  of_class = list_all-wider class wider within p.run p.of_class;
  given = p.given;
}

-- a run, and then a second one
abbrev pub reaches_then : {class : ℕ → Bool} {old mid new : Remaining} {stop : Option ℕ} → Passing class old mid
    → Reaches class mid new stop → Reaches class old new stop
reaches_then {class} p q = record {
  run = p.run ++ q.run;
  of_class = list_all-append class p.run q.run ∙ and_from _ _ p.of_class q.of_class;
  given = given_then p.given q.given;
}

-- a run and a byte of the class that ended it
abbrev reaches_whole : {class : ℕ → Bool} {old new : Remaining} {b : ℕ} → Reaches class old new (Some b) → class b ≡ true
    → Passing class old new
reaches_whole {class} {b = b} q fits = record {
  run = q.run ++ b ∷ [];
  of_class = list_all-append class q.run (b ∷ []) ∙ and_from _ _ q.of_class (and_from (class b) true fits refl);
  given = given_whole q.given;
}

-- the longest run is a run,
abbrev pub reached : {class : ℕ → Bool} {old new : Remaining} {stop : Option ℕ} → Passes class old new stop
    → Reaches class old new stop
reached q = record { run = q.run; of_class = q.of_class; given = q.given }

-- a run whose end is known is the longest run
abbrev passes_from : {class : ℕ → Bool} {old new : Remaining} {stop : Option ℕ} → Reaches class old new stop
    → MatchOption stop (new.left ≡ []) (λ b. IsFalse (class b)) → Passes class old new stop
passes_from q stopped = record { run = q.run; of_class = q.of_class; given = q.given; stopped = stopped }

-- a run, and then one that a byte of the class ends
abbrev pub passing_with : {class within : ℕ → Bool} {old mid new : Remaining} {b : ℕ}
    → ((x : ℕ) → within x ≡ true → class x ≡ true)
    → Passing class old mid → Reaches within mid new (Some b) → class b ≡ true → Passing class old new
passing_with wider p q fits = reaches_then p (reaches_whole (reaches_wider wider q) fits)

-- a run, and then the longest one, whose end is known
abbrev pub passes_to : {class within : ℕ → Bool} {old mid new : Remaining} (stop : Option ℕ)
    → ((x : ℕ) → within x ≡ true → class x ≡ true)
    → Passing class old mid → Reaches within mid new stop → MatchOption stop (new.left ≡ []) (λ b. IsFalse (class b))
    → Passes class old new stop
passes_to stop wider p q stopped = passes_from (reaches_then p (reaches_wider wider q)) stopped

-- one byte more of the class
abbrev pub passing_more : {class : ℕ → Bool} {old mid new : Remaining} {b : ℕ} → (p : Passing class old mid)
    → GivesFirst mid new (Some b) → class b ≡ true → Passing class old new
passing_more p g fits = reaches_then p (reaches_whole (record { run = []; of_class = refl; given = g.0 }) fits)

-- open content was given so far, which awaits a byte or not
pub record Taking (awaiting : Bool) (old now : Remaining) : Type 0 where
  pub run : List ℕ
  pub of_class : IsOpenContent run
  pub awaits : awaits_after false run ≡ awaiting
  pub given : Given old now run None

-- No content was given yet.
pub taking_none : (now : Remaining) → Taking false now now
taking_none now = record { run = []; of_class = refl; awaits = refl; given = record { bytes = refl; counted = omega arith } }

-- More content was given.
taking_run : {awaiting : Bool} {old mid new : Remaining} {run : List ℕ} → Taking awaiting old mid → Given mid new run None
    → IsTrue (takes_all awaiting run) → Taking (awaits_after awaiting run) old new
taking_run {run} p g taken = record {
  run = p.run ++ run;
  of_class = takes_all-append false p.run run p.of_class (rw p.awaits taken);
  awaits = awaits_after-append false p.run run ∙ ap (λ (a : Bool). awaits_after a run) p.awaits;
  given = given_then p.given g;
}

-- Quoted text is taken, and a backslash after it awaits a byte.
pub taking_backslash : {old mid new : Remaining} {stop : Option ℕ} → Taking false old mid
    → Passes is_quoted_text_byte mid new stop → option_eq eqb stop (Some backslash_byte) ≡ true → Taking true old new
taking_backslash {old} {mid} {new} {stop} p passes test =
    let given = given_whole (subst (λ s. Given mid new passes.run s) (stopped_by backslash_byte stop test) passes.given) in
    let text = awaits_after-text passes.run passes.of_class in
    subst (λ awaiting. Taking awaiting old new)
    (awaits_after-append false passes.run (backslash_byte ∷ []) ∙ ap (λ (a : Bool). awaits_next a backslash_byte) text)
    (taking_run p given (takes_all-append false passes.run (backslash_byte ∷ []) (takes_all-text passes.run passes.of_class)
    (subst (λ awaiting. IsTrue (takes_all awaiting (backslash_byte ∷ []))) (sym text)
    (and_from (takes false backslash_byte) true takes-backslash refl))))

-- A backslash was given, and the byte that it pairs.
pub taking_paired : {old mid new : Remaining} {b : ℕ} → Taking true old mid → GivesFirst mid new (Some b)
    → IsTrue (is_quoted_byte b) → Taking false old new
taking_paired {b} p g fits = taking_run p (given_whole g.0) (and_from (is_quoted_byte b) true fits refl)

-- The text ended after a backslash, or a byte came that it doesn't pair.
pub content_pair : {old mid new : Remaining} {stop : Option ℕ} → Taking true old mid → GivesFirst mid new stop
    → MatchOption stop (new.left ≡ []) (λ b. IsFalse (is_quoted_byte b)) → PassesContent old new stop
content_pair p g stopped = search rules

-- Quoted text up to the end, or to a byte that is no backslash.
pub content_text : {old mid new : Remaining} (stop : Option ℕ) → Taking false old mid → Passes is_quoted_text_byte mid new stop
    → option_eq eqb stop (Some backslash_byte) ≡ false → PassesContent old new stop
content_text {new = new} stop p passes other = record {
  run = p.run ++ passes.run;
  of_class = takes_all-append false p.run passes.run p.of_class (rw p.awaits (takes_all-text passes.run passes.of_class));
  given = given_then p.given passes.given;
  stopped = ends stop passes.stopped other;
}
  where
    closes : awaits_after false (p.run ++ passes.run) ≡ false
    closes = awaits_after-append false p.run passes.run
        ∙ ap (λ (a : Bool). awaits_after a passes.run) p.awaits ∙ awaits_after-text passes.run passes.of_class

    ends : (stop : Option ℕ) → MatchOption stop (new.left ≡ []) (λ b. IsFalse (is_quoted_text_byte b))
        → option_eq eqb stop (Some backslash_byte) ≡ false
        → MatchOption stop (new.left ≡ []) (λ b. IsFalse (continues (p.run ++ passes.run) b))
    ends None stopped other = stopped
    ends (Some b) stopped other = ap (λ (a : Bool). takes a b) closes ∙ not_taken b stopped other
