-- Each rejected text has one fault, and a viable one has one completion.
use Rattle.std.proofs.Common.{◌≡◌, ℕ, ◌+◌, ◌<◌, ◌≤◌, Bool, false, List, [], ◌∷◌, ◌++◌, length, drop, Some, None, refl, sym, ap, ◌∙◌, arith}
use Rattle.std.proofs.Common.{append-nil, length-append, codes, rules}
use Rattle.std.proofs.Math.Seq.{drop-append_seam}
use Rattle.std.proofs.lemmas.Bool.{false≢true, and_parts}
use Rattle.std.proofs.lemmas.List.{drop-append-le}
use Rattle.std.proofs.lemmas.List.Folds.{list_all-append}
use Rattle.std.proofs.lemmas.Option.{same_Some, none-some}
use Rattle.std.specs.Prelude.{IsTrue, IsFalse, is_some, slice_get, ◌==◌}
use Rattle.std.specs.{List.list_all, Option.option_and_then}
use Rattle.mime.specs.Bytes.{is_token_byte, is_quoted_byte, slash_byte, equals_byte}
use Rattle.mime.specs.Inner.Quoted.{takes_all, awaits_after}
use Rattle.mime.specs.Values.{IsRejected}
use Rattle.mime.specs.Faults.{IsLongestPrefix, EndsIn, Lacks, IsDeadAt, IsFault}
use Rattle.mime.specs.Laws.{OneCompletion, CompletedIsRejected, OneFault, OneLongestPrefix}
use Rattle.mime.specs.declared.scan.fault.ParseError.{ParseError}
use Rattle.mime.specs.declared.scan.fault.ParseError.TheVariants.{MissingSlash, MissingSubtype, MissingEqual, MissingValue, MissingQuote}
use Rattle.mime.specs.declared.scan.fault.ParseError.TheVariants.{InvalidToken}
use Rattle.mime.proofs.GrammarLemmas.Content.{takes_all-any}
use Rattle.mime.proofs.GrammarLemmas.Begun.{Closed, Begun, in_type, in_subtype, in_list, ListState, in_name, in_value, in_quotes, list_at}
use Rattle.mime.proofs.GrammarLemmas.Begun.{walk, tree_of, lacking}
use Rattle.mime.proofs.GrammarLemmas.Spelling.{before_equals, begun-from_walk, spelled-from_walk, text-in_subtype, text-in_value}
use Rattle.mime.proofs.GrammarLemmas.Readings.{walk-accepted}
use Rattle.mime.proofs.GrammarLemmas.Viability.{by_option, accepted-from_complete, completes, completes-from_accepted, walk_from-open}
use Rattle.mime.proofs.GrammarLemmas.Viability.{lacks-from_walk, viable-from_lacks, walk-from_viable, not_viable-at_dead}
use Rattle.mime.proofs.GrammarLemmas.Viability.{whole_prefix-from_walk, prefix_unique, stop-from_walk, dead-from_stop}

-- ---- a begun tree lacks one thing only

-- A completion that fails completes nothing.
never : {X : Type 0} → IsTrue false → X
never fails = absurd (false≢true fails)

-- A completion that fails completes nothing, whatever byte the text ends in.
nor : {X E : Type 0} → IsTrue false → E → X
nor fails ends = never fails

-- the fault is what the state says, and no text may end there
abbrev IsOwn : Begun → ParseError → Type 0
IsOwn begun fault = (fault ≡ lacking begun) × (tree_of begun ≡ None)

-- Each of the five faults is tried.
own-by_fault : (text : List ℕ) (begun : Begun) → walk text ≡ Some begun
    → (IsTrue (completes begun (codes "x/x")) → IsOwn begun MissingSlash)
    → (IsTrue (completes begun (codes "x")) → EndsIn text slash_byte → IsOwn begun MissingSubtype)
    → (IsTrue (completes begun (codes "=x")) → IsOwn begun MissingEqual)
    → (IsTrue (completes begun (codes "x")) → EndsIn text equals_byte → IsOwn begun MissingValue)
    → (IsTrue (completes begun (codes "x\"")) → IsOwn begun MissingQuote)
    → (fault : ParseError) → Lacks text fault → IsOwn begun fault
own-by_fault text begun walked slash subtype equal value quote MissingSlash lacks =
    slash (completes-from_accepted text (codes "x/x") begun walked lacks.0)
own-by_fault text begun walked slash subtype equal value quote MissingSubtype lacks =
    subtype (completes-from_accepted text (codes "x") begun walked lacks.0) lacks.1
own-by_fault text begun walked slash subtype equal value quote MissingEqual lacks =
    equal (completes-from_accepted text (codes "=x") begun walked lacks.0)
own-by_fault text begun walked slash subtype equal value quote MissingValue lacks =
    value (completes-from_accepted text (codes "x") begun walked lacks.0) lacks.1
own-by_fault text begun walked slash subtype equal value quote MissingQuote lacks =
    quote (completes-from_accepted text (codes "x\"") begun walked lacks.0)
own-by_fault text begun walked slash subtype equal value quote other lacks = absurd lacks.0

-- A text that ends in bytes of a class ends in no byte outside it.
ends_not : {X : Type 0} (class : ℕ → Bool) (text before run : List ℕ) (b : ℕ) → before ++ run ≡ text → 0 < length run
    → IsTrue (list_all class run) → IsFalse (class b) → EndsIn text b → X
ends_not class text before run b spelled some all outside (prefix, ends) =
    let whole : length before + length run ≡ length prefix + 1 =
    sym (length-append before run) ∙ ap length (spelled ∙ ends) ∙ length-append prefix (b ∷ []) in
    let within : length before ≤ length prefix = omega (arith, whole, some) in
    let last : run ≡ drop (length before) prefix ++ (b ∷ []) =
    sym (drop-append_seam before run) ∙ ap (drop (length before)) (spelled ∙ ends)
    ∙ drop-append-le (length before) prefix (b ∷ []) within in
    let parts = and_parts (list_all class (drop (length before) prefix)) (list_all class (b ∷ []))
    (sym (list_all-append class (drop (length before) prefix) (b ∷ [])) ∙ sym (ap (list_all class) last) ∙ all) in
    never (sym outside ∙ (and_parts (class b) _ parts.1).0)

-- Bytes that an open quoted value takes complete nothing.
not_completes-open : {X : Type 0} (top sub : List ℕ) (closed : Closed) (n name content more : List ℕ)
    → IsTrue (takes_all (awaits_after false content) more)
    → IsTrue (completes (in_list top sub (list_at closed (in_quotes n name content))) more) → X
not_completes-open top sub closed n name content more all passes =
    never (sym (ap (λ o. is_some (option_and_then tree_of o)) (walk_from-open top sub closed n name content more all)) ∙ passes)

-- A text lacks only what the state at its end says.
lacks_own : (text : List ℕ) (begun : Begun) → walk text ≡ Some begun → (fault : ParseError) → Lacks text fault
    → IsOwn begun fault
unfolding is_token_byte is_quoted_byte
lacks_own text (in_type []) walked = own-by_fault text _ walked (λ passes. (refl, refl)) nor never nor never
lacks_own text (in_type (t ∷ top)) walked = own-by_fault text _ walked (λ passes. (refl, refl)) nor never nor never
lacks_own text (in_subtype top []) walked =
    own-by_fault text _ walked never (λ passes ends. (refl, refl)) never
    (λ passes.
    ends_not (λ c. c == slash_byte) text top (slash_byte ∷ []) equals_byte (spelled-from_walk text _ walked) (omega arith) refl refl)
    never
lacks_own text (in_subtype top (s ∷ sub)) walked =
    own-by_fault text _ walked never (λ passes. in_token slash_byte refl) never (λ passes. in_token equals_byte refl) never
  where
    in_token : {X : Type 0} (b : ℕ) → IsFalse (is_token_byte b) → EndsIn text b → X
    in_token b =
        ends_not is_token_byte text (top ++ (slash_byte ∷ [])) (s ∷ sub) b
        (text-in_subtype top (s ∷ sub) ∙ spelled-from_walk text _ walked) (omega arith) (begun-from_walk text _ walked).1
lacks_own text (in_list top sub list) walked = at list.position list.closed walked
  where
    at : (position : ListState) (closed : Closed) → walk text ≡ Some (in_list top sub (list_at closed position))
        → (fault : ParseError) → Lacks text fault → IsOwn (in_list top sub (list_at closed position)) fault
    at (in_name n name) closed walked = own-by_fault text _ walked never nor (λ passes. (refl, refl)) nor never
    at (in_value n name []) closed walked =
        own-by_fault text _ walked never
        (λ passes.
        ends_not (λ c. c == equals_byte) text (before_equals top sub closed n name) (equals_byte ∷ []) slash_byte
        (sym (append-nil _) ∙ text-in_value top sub closed n name [] ∙ spelled-from_walk text _ walked) (omega arith) refl refl)
        never (λ passes ends. (refl, refl)) never
    at (in_value n name (v ∷ value)) closed walked =
        own-by_fault text _ walked never (λ passes. in_token slash_byte refl) never (λ passes. in_token equals_byte refl) never
      where
        in_token : {X : Type 0} (b : ℕ) → IsFalse (is_token_byte b) → EndsIn text b → X
        in_token b =
            ends_not is_token_byte text (before_equals top sub closed n name ++ (equals_byte ∷ [])) (v ∷ value) b
            (text-in_value top sub closed n name (v ∷ value) ∙ spelled-from_walk text _ walked) (omega arith)
            (begun-from_walk text _ walked).list.position.2
    at (in_quotes n name content) closed walked =
        own-by_fault text _ walked (completes_not (codes "x/x") (takes_all-any awaited (codes "x/x") refl))
        (λ passes ends. completes_not (codes "x") (takes_all-any awaited (codes "x") refl) passes)
        (completes_not (codes "=x") (takes_all-any awaited (codes "=x") refl))
        (λ passes ends. completes_not (codes "x") (takes_all-any awaited (codes "x") refl) passes)
        (λ passes. (refl, refl))
      where
        awaited : Bool
        awaited = awaits_after false content

        completes_not : {X : Type 0} (more : List ℕ) → IsTrue (takes_all awaited more)
            → IsTrue (completes (in_list top sub (list_at closed (in_quotes n name content))) more) → X
        completes_not = not_completes-open top sub closed n name content
    at other closed walked = own-by_fault text _ walked never nor never nor never

-- A text that a completion makes an accepted one is rejected.
pub completed_is_rejected : CompletedIsRejected
completed_is_rejected text fault lacks accepted =
    let found = walk-accepted text accepted in
    none-some found.1 (sym (lacks_own text found.0 found.2.0 fault lacks).1 ∙ found.2.1)

-- A text lacks at most one thing.
pub lacks_unique : (text : List ℕ) (first second : ParseError) → Lacks text first → Lacks text second → first ≡ second
lacks_unique text first second one two =
    let reached = walk-from_viable text (viable-from_lacks text first one) in
    (lacks_own text reached.0 reached.1 first one).0 ∙ sym (lacks_own text reached.0 reached.1 second two).0

-- A rejected text that can be walked lacks what the state at its end says.
lacks-from_rejected : (text : List ℕ) (begun : Begun) → walk text ≡ Some begun → IsRejected text → Lacks text (lacking begun)
lacks-from_rejected text begun walked rejected =
    by_option (tree_of begun) (lacks-from_walk text begun walked)
    (λ tree complete. absurd (rejected (accepted-from_complete text begun tree walked complete)))

-- Exactly one completion makes a viable rejected text an accepted one.
pub one_completion : OneCompletion
one_completion text viable rejected =
    let reached = walk-from_viable text viable in
    let lacks = lacks-from_rejected text reached.0 reached.1 rejected in
    (lacking reached.0, lacks, λ other lacks_too. lacks_unique text other (lacking reached.0) lacks_too lacks)

-- ---- the fault

-- What a text lacks is its fault.
pub fault-from_lacks : (text : List ℕ) (fault : ParseError) → Lacks text fault → IsFault text fault
fault-from_lacks text fault lacks = search rules

-- A text has at most one position at fault.
dead_unique : (text : List ℕ) (pos at byte there : ℕ) → IsDeadAt text pos byte → IsDeadAt text at there
    → InvalidToken pos byte ≡ InvalidToken at there
dead_unique text pos at byte there first second =
    let positions : pos ≡ at = prefix_unique text pos at first.prefix second.prefix in
    let bytes : byte ≡ there = same_Some byte there (sym first.there ∙ ap (slice_get text) positions ∙ second.there) in
    ap (λ p. InvalidToken p byte) positions ∙ ap (λ x. InvalidToken at x) bytes

-- Two faults of a text are the same.
fault_unique : (text : List ℕ) (first second : ParseError) → IsFault text first → IsFault text second → first ≡ second
fault_unique text (InvalidToken pos byte) (InvalidToken at there) one two = dead_unique text pos at byte there one two
fault_unique text (InvalidToken pos byte) other one two = absurd (not_viable-at_dead text pos byte one (viable-from_lacks text other two))
fault_unique text other (InvalidToken pos byte) one two = absurd (not_viable-at_dead text pos byte two (viable-from_lacks text other one))
fault_unique text first second one two = lacks_unique text first second one two

-- A rejected text has exactly one fault.
pub one_fault : OneFault
one_fault text rejected =
    let found : (fault : ParseError) × IsFault text fault =
    by_option (walk text)
    (λ stopped.
    let stop = stop-from_walk (in_type []) text stopped in (InvalidToken (length stop.prefix) stop.byte, dead-from_stop text stop))
    (λ begun walked. (lacking begun, fault-from_lacks text (lacking begun) (lacks-from_rejected text begun walked rejected))) in
    (found.0, found.1, λ other is. fault_unique text other found.0 is found.1)

-- A text has exactly one longest viable prefix.
pub one_longest_prefix : OneLongestPrefix
one_longest_prefix text =
    let found : (count : ℕ) × IsLongestPrefix text count =
    by_option (walk text)
    (λ stopped. let stop = stop-from_walk (in_type []) text stopped in (length stop.prefix, (dead-from_stop text stop).prefix))
    (λ begun walked. (length text, whole_prefix-from_walk text begun walked)) in
    (found.0, found.1, λ other is. prefix_unique text other found.0 is found.1)
