-- The fault of a value that isn't read is the answer: where reading stops nothing helps, and at each byte before that something does.
use Rattle.std.proofs.Common.{rules}
use Rattle.mime_http.proofs.Common.{Answer, AreSpaces, not, ◌==◌, nat_tests, EndsIn, InvalidToken, IsHttpFault, IsHttpMediaType}
use Rattle.mime_http.proofs.Common.{IsHttpViable, List, MissingQuote, MissingSubtype, MissingValue, NoMemory, None, OneHttpFault}
use Rattle.mime_http.proofs.Common.{ParseError, Parts, State, [], awaits_after, list_all, true, parts_with, answer_at_end, answer_from}
use Rattle.mime_http.proofs.Common.{answer_of, ap, append-nil, append_assoc, arith, before_type, by_option, false, codes, completion_of}
use Rattle.mime_http.proofs.Common.{cons_option, in_name, in_string, in_subtype, in_type, in_value, is_quoted_byte, is_token_byte}
use Rattle.mime_http.proofs.Common.{last_byte_of, length, length-append, media_of_parts, next, read, refl, rejected, slice_get-prefix}
use Rattle.mime_http.proofs.Common.{slice_get_within, subst, suc, sym, take, take-append-add, take-append_seam, take-length, unwrap_or, ℕ}
use Rattle.mime_http.proofs.Common.{⊤, ◌++◌, ◌+◌, ◌-◌, ◌∙◌, ◌∷◌, ◌≡◌, ◌≢◌, closed-letter, takes_all-any}
use Rattle.mime_http.proofs.Runs.{no_way, one_byte}
use Rattle.mime_http.proofs.ReadBack.{Behind, Spells, behind, answered_is_http, read_at_end, read_from, spelled_after}
use Rattle.mime_http.proofs.ReadForth.{http_is_answered}

-- What isn't read is no media type.
pub rejected_is_none : (value : List ℕ) (fault : ParseError) → answer_of value ≡ rejected fault → ¬ (IsHttpMediaType value)
rejected_is_none value fault e is = let answered = http_is_answered value is.0 is.1 in absurd (cc (e, answered.1))

-- ---- the end

-- The last byte of bytes behind others is the last of all.
ends_in : {Front : List ℕ → Type 0} (bytes front : List ℕ) (b : ℕ) → Behind Front (bytes ++ (b ∷ [])) front → EndsIn front b
ends_in bytes front b (behind before is) = (before ++ bytes, simp append_assoc)

-- A letter and a quote close a quoted string, after a backslash, too.
letter_closes : (parts : Parts) (name content : List ℕ) (at : ℕ)
    → answer_from (in_string parts name content) at (codes "x\"") ≡ read (parts_with parts name (content ++ (120 ∷ [])))
unfolding is_quoted_byte
letter_closes parts name content at = grind (arith, takes_all-any (awaits_after false content) (120 ∷ []) refl, closed-letter content)

-- The fault that is an answer is the value's.
abbrev IsExplained : List ℕ → Answer → Type 0
IsExplained value (read parts) = ⊤
IsExplained value (rejected fault) = IsHttpFault value fault

-- A value that is read with more bytes after it lacks them, and is viable.
lacking : (value more : List ℕ) (state : State) {parts : Parts} {Last : Type 0} → Spells state value
    → answer_from state 0 more ≡ read parts → Last → IsHttpViable value × (IsHttpMediaType (value ++ more) × Last)
lacking value more state {parts} is reads last = grind (arith, read_from)

-- A value is viable in each state, and what is missing at its end is its fault.
explained_at_end : (state : State) (value : List ℕ) → Spells state value
    → IsHttpViable value × IsExplained value (answer_at_end state)
unfolding is_token_byte is_quoted_byte
explained_at_end before_type value is = lacking value (codes "x/x") before_type is refl tt
explained_at_end (in_type top) value is = lacking value (codes "x/x") (in_type top) is refl tt
explained_at_end (in_subtype top []) value is = lacking value (codes "x") (in_subtype top []) is refl (ends_in top value 47 is.2)
explained_at_end (in_name parts name) value is = lacking value (codes "=x") (in_name parts name) is refl tt
explained_at_end (in_value parts name []) value is = lacking value (codes "x") (in_value parts name []) is refl (ends_in name value 61 is.2)
explained_at_end (in_string parts name content) value is =
    lacking value (codes "x\"") (in_string parts name content) is (letter_closes parts name content 0) tt
explained_at_end state value is = (([], rw (append-nil value) (_, read_at_end state value is)), tt)

-- ---- the fault

-- A byte that leads nowhere is at fault after viable bytes, if reading goes on from a state after them, whatever follows.
dead_at : (state : State) (front : List ℕ) (b : ℕ) (bytes : List ℕ) → next state b ≡ None → IsHttpViable front
    → ((more : List ℕ) → answer_of (front ++ more) ≡ answer_from state (length front) more)
    → IsHttpFault (front ++ (b ∷ bytes)) (InvalidToken (length front) b)
dead_at state front b bytes stops viable goes = (
  record {
    within = omega (arith, length-append front (b ∷ bytes));
    viable = rw take-append_seam viable;
    longest = λ n above within viable.
        let k = n - suc (length front) in
        let is : n ≡ length front + suc k = omega arith in
        let text : take n (front ++ (b ∷ bytes)) ++ viable.0 ≡ front ++ (b ∷ (take k bytes ++ viable.0)) =
        grind (arith, take-append-add front (b ∷ bytes) (suc k), append_assoc) in
        rejected_is_none _ _ (ap answer_of text ∙ goes _ ∙ no_way state (length front) b _ stops) viable.1;
  },
  slice_get-prefix front b bytes (length front) refl,
)

-- The answer from a state on explains the value.
explained_from : (bytes : List ℕ) (state : State) (at : ℕ) (front : List ℕ) → at ≡ length front → Spells state front
    → ((more : List ℕ) → answer_of (front ++ more) ≡ answer_from state at more)
    → IsExplained (front ++ bytes) (answer_from state at bytes)
explained_from [] state at front there is goes = rw (append-nil front) (explained_at_end state front is).1
explained_from (b ∷ bytes) state at front there is goes = by_option (next state b)
    (λ stops. rw (stops, there) (dead_at state front b bytes stops (explained_at_end state front is).0 (rw there at goes)))
    (λ after leads.
    let here : at + 1 ≡ length (front ++ (b ∷ [])) = omega (arith, there, length-append front (b ∷ [])) in
    let on = λ (more : List ℕ). ap answer_of (append_assoc front (b ∷ []) more) ∙ goes (b ∷ more)
    ∙ one_byte state after at b more leads in
    rw leads (rw append_assoc at (explained_from bytes after (at + 1) _ here (spelled_after state after b front leads is) on)))

-- The answer's fault is the value's.
pub answered_fault : (value : List ℕ) (fault : ParseError) → answer_of value ≡ rejected fault → IsHttpFault value fault
answered_fault value fault e = subst (IsExplained value) e (explained_from value before_type 0 [] refl refl (λ more. refl))

-- ---- one fault

-- An answer is a media type or a fault.
by_answer : {P : Type 0} (answer : Answer) → ((parts : Parts) → answer ≡ read parts → P)
    → ((fault : ParseError) → answer ≡ rejected fault → P) → P
by_answer (read parts) is isnt = is parts refl
by_answer (rejected fault) is isnt = isnt fault refl

-- Bytes that are read with others after them are rejected alone, if they are so from each state on.
sole_from : (last more : List ℕ) (fault : ParseError) → ((state : State) (at : ℕ) (parts : Parts)
    → answer_from state at (last ++ more) ≡ read parts → answer_from state at last ≡ rejected fault)
    → (front : List ℕ) (state : State) (at : ℕ) (parts : Parts) → answer_from state at (front ++ (last ++ more)) ≡ read parts
    → answer_from state at (front ++ last) ≡ rejected fault
sole_from last more fault each [] state at parts is = each state at parts is
sole_from last more fault each (b ∷ front) state at parts is = grind (arith, sole_from last more fault each front, by_option)

-- The byte that a value with a fault ends in, if it must.
abbrev last_of : ParseError → List ℕ
last_of fault = cons_option (last_byte_of fault) []

abbrev more_of : ParseError → List ℕ
more_of fault = unwrap_or (completion_of fault) (0 ∷ [])

-- Bytes without a quote end no quoted string.
no_quote : (before : Parts) (name content bytes : List ℕ) (at : ℕ) (parts : Parts) → list_all (λ b. not (b == 34)) bytes ≡ true
    → answer_from (in_string before name content) at bytes ≢ read parts
no_quote before name content [] at parts all is = absurd cc
no_quote before name content (b ∷ bytes) at parts all is =
    grind (arith, nat_tests, no_quote before name (content ++ (b ∷ [])) bytes (at + 1) parts)

-- Each state that a fault's completion completes has the fault.
has_fault : (fault : ParseError) (state : State) (at : ℕ) (parts : Parts)
    → answer_from state at (last_of fault ++ more_of fault) ≡ read parts → answer_from state at (last_of fault) ≡ rejected fault
unfolding is_token_byte is_quoted_byte
has_fault MissingQuote (in_string _ name content) at parts is = refl
has_fault fault (in_string before name content) at parts is = grind (arith, no_quote)
has_fault fault (in_subtype top []) at parts is = absurd cc
has_fault fault (in_value _ name []) at parts is = absurd cc
has_fault fault state at parts is = grind arith

-- What is missing at the end of a value is the answer.
completed : (value : List ℕ) (fault : ParseError) (front : List ℕ) → value ≡ front ++ last_of fault
    → IsHttpMediaType (value ++ more_of fault) → answer_of value ≡ rejected fault
completed value fault front same is =
    let answered = (http_is_answered _ is.0 is.1).1 in
    let sole = sole_from (last_of fault) (more_of fault) fault (has_fault fault) front before_type 0 in
    grind (arith, answered, append_assoc, sole)

-- A fault of a value is the answer.
pub fault_answered : (value : List ℕ) (fault : ParseError) → IsHttpFault value fault → answer_of value ≡ rejected fault
fault_answered value (InvalidToken pos byte) dead = by_answer (answer_of value)
    (λ parts e. absurd (not_viable ([], rw (append-nil value) (media_of_parts parts, answered_is_http value parts e))))
    (λ fault e. e ∙ found fault (answered_fault value fault e))
  where
    not_viable : ¬ (IsHttpViable value)
    not_viable viable =
        dead.0.longest (length value) (slice_get_within value pos byte dead.1) (omega arith) (rw (take-length value) viable)

    found : (fault : ParseError) → IsHttpFault value fault → rejected fault ≡ rejected (InvalidToken pos byte)
    found (InvalidToken place other) is =
        let same : place ≡ pos = grind (arith, is.0.longest pos, dead.0.longest place) in cc (same, is.1, dead.1)
    found NoMemory lacks = absurd lacks.0
    found fault lacks = absurd (not_viable (_, lacks.0))
fault_answered value NoMemory lacks = absurd lacks.0
fault_answered value MissingSubtype (is, (front, same)) = completed value MissingSubtype front same is
fault_answered value MissingValue (is, (front, same)) = completed value MissingValue front same is
fault_answered value fault lacks = completed value fault value (sym (append-nil value)) lacks.0

-- A media type has no fault.
pub no_fault : (value : List ℕ) (fault : ParseError) → IsHttpMediaType value → ¬ (IsHttpFault value fault)
no_fault value fault is has = rejected_is_none value fault (fault_answered value fault has) is

-- A value that is no media type has exactly one fault.
pub one_http_fault : OneHttpFault
one_http_fault value isnt = by_answer (answer_of value) (λ parts e. absurd (isnt (media_of_parts parts, answered_is_http value parts e)))
    (λ fault e. (fault, answered_fault value fault e, λ other has. cc (fault_answered value other has, e)))

-- ---- an open string

-- White space after an open string doesn't close it.
still_open : (state : State) (at : ℕ) (bytes white : List ℕ) → AreSpaces white
    → answer_from state at bytes ≡ rejected MissingQuote → answer_from state at (bytes ++ white) ≡ rejected MissingQuote
unfolding is_quoted_byte
still_open (in_string parts name content) at [] [] all is = refl
still_open (in_string parts name content) at [] (b ∷ white) all is =
    grind (arith, nat_tests, still_open (in_string parts name (content ++ (b ∷ []))) (at + 1) [] white)
still_open (in_subtype top []) at [] white all is = absurd cc
still_open (in_value parts name []) at [] white all is = absurd cc
still_open state at [] white all is = absurd cc
still_open state at (b ∷ bytes) white all is = grind (arith, by_option, λ (after : State). still_open after (at + 1) bytes white)

-- A value that lacks a quote lacks it before white space, too.
pub open_after : (value white : List ℕ) → AreSpaces white → IsHttpFault value MissingQuote
    → IsHttpFault (value ++ white) MissingQuote
open_after value white all lacks = search (answered_fault, still_open, fault_answered, rules)
