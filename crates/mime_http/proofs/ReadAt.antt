-- Reading on from a position of a value: over a byte, a run, and quoted content; and where nothing goes on.
use Rattle.std.proofs.Common.{rules}
use Rattle.std.proofs.lemmas.Grind.{common_steps}
use Rattle.std.proofs.Common.{suc, sym, zero}
use Rattle.mime_http.proofs.Common.{Bool, one-add, InvalidToken, IsClosedAt, IsContent, List, None, ParseError, Some, State, []}
use Rattle.mime_http.proofs.Common.{IsStringFault, IsToken, Parts, after_semicolon, answer_at, answer_at_end, answer_from, ap, append-nil}
use Rattle.mime_http.proofs.Common.{append_assoc, arith, awaits_after, awaits_after-append, before_semicolon, cases_lt, drop, drop-drop}
use Rattle.mime_http.proofs.Common.{drop_more, drop_of_length-le, drop_split, false, fault_at, flat_map-append, get_or-drop, if◌then◌else◌}
use Rattle.mime_http.proofs.Common.{are_quoted_text, in_name, in_ranges, in_string, in_subtype, in_value, is_quoted_byte}
use Rattle.mime_http.proofs.Common.{is_quoted_text_byte, is_space}
use Rattle.mime_http.proofs.Common.{is_bchar, is_token_byte, is_token, length, length-drop, length-take-le, nat_tests, list_all}
use Rattle.mime_http.proofs.Common.{list_all-append, list_all-wider, next, no_byte, not, prefix_len, prefix_len_stops, quoted_pair, refl}
use Rattle.mime_http.proofs.Common.{rejected, slice_index, slice_range, take, take-add, take-append-drop, take_all, text_byte, text_of_pair}
use Rattle.mime_http.proofs.Common.{text_of_parts, true, parts_with, ℕ, ◌++◌, ◌+◌, ◌-◌, ◌<◌, ◌∙◌, ◌∷◌, ◌≡◌, ◌≢◌, ◌≤◌, not-true}
use Rattle.mime_http.proofs.Common.{content-awaits, is_stop}
use Rattle.mime_http.proofs.ReadBack.{content_more}
use Rattle.mime_http.proofs.Runs.{EndsToken, KeepsSpace, content_ends, name_begins, no_way, on_content, on_subtype, on_value, one_byte}
use Rattle.mime_http.proofs.Runs.{over_white, subtype_ends, value_ends}
use Rattle.mime_search.specs.declared.class.TheConstants.{TOKEN_STOPS, TEXT_STOPS}

-- ---- a part of a value

-- A part of a value has as many bytes as there are positions between its ends.
pub length-part : (value : List ℕ) (from to : ℕ) → to ≤ length value → length (slice_range value from to) ≡ to - from
length-part value from to within = length-take-le (to - from) (drop from value) (omega (arith, within, length-drop from value))

-- The part from a position to itself has no bytes.
pub no_part : (value : List ℕ) (at : ℕ) → slice_range value at at ≡ []
no_part value at = let none : at - at ≡ 0 = omega arith in rw none refl

-- The part from a position to the next is the byte there.
pub one_part : (value : List ℕ) (at : ℕ) → at < length value → slice_range value at (at + 1) ≡ slice_index value at ∷ []
one_part value at within = grind (arith, drop_more)

-- A part is the part up to a position between its ends and the part from there on.
pub parts_joined : (value : List ℕ) (from at to : ℕ) → from ≤ at → at ≤ to
    → slice_range value from to ≡ slice_range value from at ++ slice_range value at to
parts_joined value from at to least most = grind (arith, take-add (at - from) (to - at) (drop from value), drop-drop (at - from) from value)

-- ---- runs

-- The position, from one on, of the first byte that isn't of a class, or the length.
abbrev pub run_end : (ℕ → Bool) → List ℕ → ℕ → ℕ
run_end class value from = from + prefix_len class (drop from value)

-- The bytes of a run are of its class.
run_all : (class : ℕ → Bool) (bytes : List ℕ) → list_all class (take (prefix_len class bytes) bytes) ≡ true
run_all class [] = refl
run_all class (b ∷ bytes) = grind (arith, one-add (prefix_len class bytes), run_all class bytes)

-- A part of a value whose bytes are of a class, and which ends before a byte of another or at the end.
pub record IsRun (class : ℕ → Bool) (value : List ℕ) (from to : ℕ) : Type 0 where
  pub least : from ≤ to
  pub all : list_all class (slice_range value from to) ≡ true
  pub stops : to < length value → class (slice_index value to) ≡ false

-- The part up to the end of a run is one.
pub run_is : (class : ℕ → Bool) (value : List ℕ) (from to : ℕ) → to ≡ run_end class value from → IsRun class value from to
run_is class value from to is =
    let stops = prefix_len_stops class (drop from value) 0 in
    grind (arith, run_all class (drop from value), get_or-drop from value, stops, length-drop from value)

-- A run of a class goes on over the bytes of a narrower class.
wider_run : (narrow class : ℕ → Bool) → ((b : ℕ) → narrow b ≡ true → class b ≡ true) → (n : ℕ) (bytes : List ℕ)
    → n ≤ prefix_len narrow bytes → prefix_len class bytes ≡ n + prefix_len class (drop n bytes)
wider_run narrow class wider zero [] passed = omega arith
wider_run narrow class wider zero (b ∷ bytes) passed = omega arith
wider_run narrow class wider (suc n) [] passed = absurd (omega (arith, passed))
wider_run narrow class wider (suc n) (b ∷ bytes) passed = search (wider_run narrow class wider n bytes, one-add, rules)

-- The end of a run stays the same after some bytes of a narrower class.
pub run_goes_on : (narrow class : ℕ → Bool) → ((b : ℕ) → narrow b ≡ true → class b ≡ true)
    → (value : List ℕ) (from to : ℕ)
    → from ≤ to → to ≤ run_end narrow value from → run_end class value to ≡ run_end class value from
run_goes_on narrow class wider value from to least passed =
    let there : from + (to - from) ≡ to = omega (arith, least) in
    let here : prefix_len class (drop to value) ≡ prefix_len class (drop (to - from) (drop from value)) =
    ap (λ k. prefix_len class (drop k value)) (sym there) ∙ ap (prefix_len class) (sym (drop-drop (to - from) from value)) in
    omega (arith, least, here, wider_run narrow class wider (to - from) (drop from value) (omega (arith, passed)))

-- The bytes that a search for the end of a token passes may occur in a token.
pub are_token_bytes : (b : ℕ) → not (is_stop TOKEN_STOPS b) ≡ true → is_token_byte b ≡ true
unfolding is_token_byte
are_token_bytes b go = in_ranges TOKEN_STOPS is_token_byte (omega arith) (omega arith) (omega arith) refl b (not-true _ go)

-- They may occur in a boundary, too.
are_bchars : (b : ℕ) → not (is_stop TOKEN_STOPS b) ≡ true → is_bchar b ≡ true
are_bchars b go = in_ranges TOKEN_STOPS is_bchar (omega arith) (omega arith) (omega arith) refl b (not-true _ go)

-- The bytes after plain ones decide whether all may occur in a boundary.
pub rest_decides : (bytes : List ℕ) (n : ℕ) → let plain : ℕ → Bool = λ b. not (is_stop TOKEN_STOPS b) in n ≡ run_end plain bytes 0
    → list_all is_bchar (take (length bytes - n) (drop n bytes)) ≡ list_all is_bchar bytes
rest_decides bytes n is =
    let plain : ℕ → Bool = λ b. not (is_stop TOKEN_STOPS b) in
    let same : n ≡ prefix_len plain bytes = omega (arith, is) in
    let rest = take_all (length bytes - n) (drop n bytes) (omega (arith, length-drop n bytes)) in
    let first : list_all is_bchar (take n bytes) ≡ true =
    list_all-wider plain is_bchar are_bchars (take n bytes) (rw same (run_all plain bytes)) in
    grind (arith, rest, first, list_all-append is_bchar (take n bytes) (drop n bytes), take-append-drop n bytes)

-- Bytes of quoted text are content.
pub text_content : (bytes : List ℕ) → list_all is_quoted_text_byte bytes ≡ true → IsContent bytes
text_content [] all = no_byte
text_content (b ∷ bytes) all = grind (arith, text_content bytes, text_byte)

-- ---- reading on

-- Reading goes on over a part of a value, from a state to another.
pub over : (value : List ℕ) (from to : ℕ) (state after : State) → from ≤ to → to ≤ length value
    → answer_from state from (slice_range value from to ++ drop to value)
    ≡ answer_from after (from + length (slice_range value from to)) (drop to value)
    → answer_at value state from ≡ answer_at value after to
over value from to state after least within goes = grind (arith, drop_split, length-part)

-- Reading goes on over a byte.
pub over_byte : (value : List ℕ) (at : ℕ) (state after : State) → at < length value
    → next state (slice_index value at) ≡ Some after → answer_at value state at ≡ answer_at value after (at + 1)
over_byte value at state after within goes = grind (arith, drop_more, one_byte)

-- Reading doesn't go on over a byte that is at fault.
pub at_byte : (value : List ℕ) (at : ℕ) (state : State) → at < length value → next state (slice_index value at) ≡ None
    → answer_at value state at ≡ rejected (InvalidToken at (slice_index value at))
at_byte value at state within none = grind (arith, drop_more, no_way)

-- Reading ends at the end.
pub at_end : (value : List ℕ) (at : ℕ) (state : State) → length value ≤ at → answer_at value state at ≡ answer_at_end state
at_end value at state past = ap (answer_from state at) (drop_of_length-le value past)

-- A byte that is of neither of two kinds goes nowhere.
pub neither : {X : Type 0} (one other : Bool) (x y : X) → one ≡ false → other ≡ false
    → (if one then Some x else (if other then Some y else None)) ≡ None
neither one other x y isnt nor = grind arith

-- If nothing goes on at a position, there is a fault.
pub stuck : (value : List ℕ) (at : ℕ) (state : State) (missing : ParseError) → at ≤ length value
    → answer_at_end state ≡ rejected missing → (at < length value → next state (slice_index value at) ≡ None)
    → answer_at value state at ≡ rejected (fault_at value at missing)
stuck value at state missing within ends none = grind (arith, at_byte, nat_tests, at_end, cases_lt)

-- A token ends where a run of its bytes does.
pub token_ends : (value : List ℕ) (to : ℕ) → (to < length value → is_token_byte (slice_index value to) ≡ false)
    → EndsToken (drop to value)
token_ends value to stops = grind (arith, drop_more, drop_of_length-le, cases_lt)

-- ---- quoted content

-- Text after a byte of quoted text is quoted text with this byte, too.
pub text_after : (value : List ℕ) (at to : ℕ) → at < length value → is_quoted_text_byte (slice_index value at) ≡ true
    → to ≡ run_end (λ b. not (is_stop TEXT_STOPS b)) value (at + 1) → list_all is_quoted_text_byte (slice_range value at to) ≡ true
text_after value at to within text is =
    let run = run_is (λ b. not (is_stop TEXT_STOPS b)) value (at + 1) to is in
    let rest = list_all-wider _ is_quoted_text_byte are_quoted_text (slice_range value (at + 1) to) run.all in
    grind (arith, parts_joined value at (at + 1) to, run.least, one_part value at within, rest)

-- A backslash and a byte that it can pair are content.
pub pair_content : (value : List ℕ) (at end : ℕ) → end ≡ at + 2 → end ≤ length value → slice_index value at ≡ 92
    → is_quoted_byte (slice_index value (at + 1)) ≡ true → IsContent (slice_range value at end)
pair_content value at end is within first fits =
    grind (arith, common_steps, slice_range, slice_index, parts_joined, one_part, quoted_pair, no_byte)

-- Content before content is content.
pub content_on : (value : List ℕ) (from at to : ℕ) → from ≤ at → at ≤ to → IsContent (slice_range value from at)
    → IsContent (slice_range value at to) → IsContent (slice_range value from to)
content_on value from at to least most before after = grind (arith, parts_joined, content_more)

-- Content is read as a parameter's value, up to after the quote that closes it.
pub over_content : (parts : Parts) (name value : List ℕ) (from close : ℕ) → IsClosedAt value from close
    → answer_at value (in_string parts name []) from
    ≡ answer_at value (before_semicolon (parts_with parts name (slice_range value from close))) (close + 1)
unfolding is_quoted_byte
over_content parts name value from close closed =
    let content : List ℕ = slice_range value from close in
    let within : close ≤ length value = omega (arith, closed.within) in
    let first = over value from close (in_string parts name []) (in_string parts name content) closed.least within in
    let last = over_byte value close (in_string parts name content) (before_semicolon (parts_with parts name content)) closed.within in
    grind (arith, first, on_content closed.content parts name [] refl, last, closed.quote, content_ends closed.content)

-- A fault after content is the string's.
pub fault_after : (value : List ℕ) (from at : ℕ) (fault : ParseError) → from ≤ at → at ≤ length value
    → IsContent (slice_range value from at) → IsStringFault value at fault → IsStringFault value from fault
fault_after value from at fault least within content is = λ name done none parts.
    let more : List ℕ = done ++ slice_range value from at in
    let awaits : awaits_after false more ≡ false = grind (arith, awaits_after-append false done, content-awaits, content, none) in
    over value from at (in_string parts name done) (in_string parts name more) least within
    (on_content content parts name done none from (drop at value)) ∙ is name more awaits parts

-- A byte that isn't quoted text, a quote or a backslash goes nowhere.
pub goes_nowhere : (parts : Parts) (name content : List ℕ) (b : ℕ) → awaits_after false content ≡ false
    → is_quoted_text_byte b ≡ false → b ≢ 34 → b ≢ 92 → next (in_string parts name content) b ≡ None
goes_nowhere parts name content b none text quote backslash = grind (arith, nat_tests)

-- ---- tokens

-- A run of bytes that may occur in a token is one, if there are any.
pub token_part : (value : List ℕ) (from to : ℕ) → from < to → to ≤ length value → IsRun is_token_byte value from to
    → IsToken (slice_range value from to)
token_part value from to some within run = grind (arith, length-part value from to, run.all)

-- Bytes are no token with another byte among them.
no_token_with : (before : List ℕ) (b : ℕ) (bytes : List ℕ) → is_token_byte b ≡ false
    → is_token (before ++ (b ∷ bytes)) ≡ false
no_token_with [] b bytes isnt = rw isnt refl
no_token_with (c ∷ before) b bytes isnt = grind (arith, list_all-append is_token_byte before (b ∷ bytes), isnt)

-- Bytes after a run of token bytes, or no bytes, are no token.
pub no_token_value : (value : List ℕ) (from plain to : ℕ) → IsRun is_token_byte value from plain → plain ≤ to
    → to < length value → (from < plain → plain ≢ to) → is_token (slice_range value from to) ≡ false
no_token_value value from plain to run most within other =
    let after = parts_joined value plain (plain + 1) to in
    grind (arith, parts_joined value from plain to, after, one_part value plain, run.stops, no_token_with, no_part, cases_lt)

-- Reading goes on over a subtype.
pub over_subtype : (value top : List ℕ) (from to : ℕ) → from < to → to ≤ length value → IsRun is_token_byte value from to
    → answer_at value (in_subtype top []) from
    ≡ answer_at value (before_semicolon (record { top = top; sub = slice_range value from to; pairs = [] })) to
over_subtype value top from to some within run = grind (arith, over, on_subtype, subtype_ends, token_part, token_ends)

-- Reading goes on over a parameter's name.
pub over_name : (parts : Parts) (value : List ℕ) (from to : ℕ) → from < to → to ≤ length value
    → IsRun is_token_byte value from to
    → answer_at value (after_semicolon parts) from ≡ answer_at value (in_name parts (slice_range value from to)) to
over_name parts value from to some within run = grind (arith, over, name_begins, token_part)

-- Reading goes on over a parameter's value.
pub over_value : (parts : Parts) (name value : List ℕ) (from to : ℕ) → from < to → to ≤ length value
    → IsRun is_token_byte value from to → answer_at value (in_value parts name []) from
    ≡ answer_at value (before_semicolon (parts_with parts name (slice_range value from to))) to
over_value parts name value from to some within run = grind (arith, over, on_value, value_ends, token_part, token_ends)

-- ---- white space

-- Reading goes on over white space that changes nothing.
pub over_white_at : (state : State) → KeepsSpace state → (value : List ℕ) (from to : ℕ) → IsRun is_space value from to
    → to ≤ length value → answer_at value state from ≡ answer_at value state to
over_white_at state keeps value from to run within = grind (arith, over, over_white)

-- If no parameter begins after a semicolon, reading goes on as before one.
pub nothing_between : (parts : Parts) (value : List ℕ) (at : ℕ) → (at < length value → is_space (slice_index value at) ≡ false)
    → (at < length value → is_token_byte (slice_index value at) ≡ false)
    → answer_at value (after_semicolon parts) at ≡ answer_at value (before_semicolon parts) at
nothing_between parts value at space token = grind (arith, drop_more, at_end, cases_lt)

-- ---- what is written

-- One parameter more is written after the others.
pub one_written : (parts : Parts) (name content : List ℕ)
    → text_of_parts parts ++ text_of_pair (name, content) ≡ text_of_parts (parts_with parts name content)
one_written parts name content = grind (arith, flat_map-append, append-nil, append_assoc)
