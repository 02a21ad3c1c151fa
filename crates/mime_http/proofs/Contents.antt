-- The content of quoted strings: what is written for a value and in which form, what needs no backslash, and what it means.
use Rattle.std.proofs.Common.{rules}
use Rattle.mime_http.proofs.Common.{AreHeaderBytes, one-add, AreTokenBytes-from_token, Bool, IsBoundary, IsContent, IsToken, List}
use Rattle.mime_http.proofs.Common.{WrittenIsMeant, [], and_parts, ap, append-nil, append_assoc, arith, drop, drop-length, escaped, false}
use Rattle.mime_http.proofs.Common.{get_or, if◌then◌else◌, is_bchar, is_quoted_byte, is_quoted_text_byte, is_token_byte, length, list_all}
use Rattle.mime_http.proofs.Common.{list_all-wider, lowered, lowered_value, nat_tests, no_byte, not, quoted_pair, refl, suc, sym, take}
use Rattle.mime_http.proofs.Common.{take-length, text_byte, true, unescaped, zero, ℕ, ◌&&◌, ◌*◌, ◌++◌, ◌+◌, ◌-◌, ◌<◌, ◌==◌, ◌||◌, ◌∙◌, ◌∷◌}
use Rattle.mime_http.proofs.Common.{◌≡◌, ◌≢◌, ◌≤◌, Form, flat_map-append, text_of_pairs, Token, form_of, is_plain, is_token}
use Rattle.mime_http.proofs.Common.{are_quoted_text, prefix_len, text_in, text_of_pair, is_ascii_uppercase}
use Rattle.mime.specs.Bytes.{backslash_byte}
use Rattle.std.specs.Int.Bits.{or_zero_r}
use Rattle.std.proofs.Common.{take-take, take_at, length-append}
use Rattle.mime_http.proofs.Common.{prefix_len-le-length, get_or-drop, nat_lt, drop-drop, drop_more, is_stop, slice_range}
use Rattle.mime_http.proofs.ReadAt.{run_is, run_goes_on}
use Rattle.mime_search.specs.Classes.{end_of_run}
use Rattle.mime_search.specs.Quoted.{meant_from}
use Rattle.mime_search.specs.declared.class.Class.{Class}
use Rattle.mime_search.specs.declared.class.TheConstants.{TEXT_STOPS}
use Rattle.mime_http.specs.declared.quoted.Form.TheVariants.{Quoted, Escaped}
use Rattle.mime_http.proofs.Common.{Some, None}
use Rattle.mime_http.specs.declared.parameter.TheConstants.{CONTROLS}

-- Bytes of quoted text need no backslash.
pub plain_text : (bytes : List ℕ) → list_all is_quoted_text_byte bytes ≡ true → escaped bytes ≡ bytes
plain_text [] all = refl
plain_text (b ∷ bytes) all = grind (arith, nat_tests, plain_text bytes)

-- Bytes of quoted text may occur in a header.
pub safe_text : (bytes : List ℕ) → list_all is_quoted_text_byte bytes ≡ true → AreHeaderBytes bytes
safe_text = list_all-wider is_quoted_text_byte is_quoted_byte (λ b text. (and_parts (is_quoted_byte b) _ text).0)

-- A token byte is a byte of quoted text.
pub token_byte_text : (b : ℕ) → is_token_byte b ≡ true → is_quoted_text_byte b ≡ true
unfolding is_token_byte is_quoted_byte
token_byte_text b is = grind (arith, nat_tests)

-- The bytes of a token are quoted text.
pub token_text : (bytes : List ℕ) → IsToken bytes → list_all is_quoted_text_byte bytes ≡ true
token_text bytes token = list_all-wider is_token_byte is_quoted_text_byte token_byte_text bytes (AreTokenBytes-from_token bytes token)

-- The bytes of a boundary are quoted text.
pub boundary_text : (bytes : List ℕ) → IsBoundary bytes → list_all is_quoted_text_byte bytes ≡ true
unfolding is_quoted_byte
boundary_text bytes is = list_all-wider is_bchar is_quoted_text_byte (λ b is. grind (arith, nat_tests)) bytes is.all

-- ---- bytes before the first backslash

-- A value means what its bytes mean one by one.
pub unescaped_is : (bytes : List ℕ) → unescaped bytes ≡ meant_from false bytes
unescaped_is [] = refl
unescaped_is (b ∷ []) = refl
unescaped_is (b ∷ c ∷ bytes) = grind (arith, unescaped_is bytes, unescaped_is (c ∷ bytes))

-- Bytes before the first backslash mean themselves.
pub unescaped_before : (bytes : List ℕ) (at : ℕ) → at ≤ length bytes → ((i : ℕ) → i < at → get_or bytes i 0 ≢ 92)
    → unescaped bytes ≡ take at bytes ++ unescaped (drop at bytes)
unescaped_before bytes zero within none = refl
unescaped_before [] (suc at) within none = refl
unescaped_before (b ∷ bytes) (suc at) within none =
    grind (arith, nat_tests, none 0, unescaped_before bytes at, λ (i : ℕ). none (suc i))

-- A value without a backslash means itself.
pub unescaped_same : (bytes : List ℕ) → ((i : ℕ) → i < length bytes → get_or bytes i 0 ≢ 92) → unescaped bytes ≡ bytes
unescaped_same bytes none = grind (arith, unescaped_before bytes (length bytes), drop-length, take-length, append-nil)

-- The bytes before a position, and those that are written from there on, are kept if what is behind them is cut off.
pub cut_behind : (front value meant behind more rest : List ℕ) {at len room : ℕ} {bytes new : List ℕ} → bytes ≡ front ++ value
    → at ≡ length front → new ≡ meant ++ behind → len ≡ length meant → at + len ≤ room
    → take (at + len) (take room ((take at bytes ++ (new ++ more)) ++ rest)) ≡ front ++ meant
cut_behind front value meant behind more rest {at} {len} {room} is start writes size within =
    grind (arith, is, start, writes, size, take-take, take_at, append_assoc, within, length-append {A = ℕ})

-- Two bytes mean one byte at least, but a backslash at the end means none.
pub length-unescaped : (bytes : List ℕ) → length bytes ≤ 2 * length (unescaped bytes) + 1
length-unescaped [] = omega arith
length-unescaped (b ∷ []) = grind arith
length-unescaped (b ∷ c ∷ bytes) = grind (arith, length-unescaped bytes, length-unescaped (c ∷ bytes))

-- A value means no more bytes than it has, and as many only if it means itself.
as_many : (bytes : List ℕ) → (length (unescaped bytes) ≤ length bytes) × (length bytes ≤ length (unescaped bytes)
    → unescaped bytes ≡ bytes)
as_many [] = (omega arith, λ all. refl)
as_many (b ∷ []) = grind arith
as_many (b ∷ c ∷ bytes) = grind (arith, as_many bytes, as_many (c ∷ bytes))

-- Two values that differ mean different bytes if the longer one means itself.
pub longer_differs : (longer shorter : List ℕ) → unescaped longer ≡ longer → length shorter ≤ length longer → longer ≢ shorter
    → unescaped longer ≢ unescaped shorter
longer_differs longer shorter itself long differ same = search (as_many, rules)

-- ---- what is written for a value

-- What is written for a value is quoted content.
pub content_of_escaped : (value : List ℕ) → AreHeaderBytes value → IsContent (escaped value)
content_of_escaped [] all = no_byte
content_of_escaped (b ∷ value) all = grind (arith, nat_tests, content_of_escaped value, text_byte, quoted_pair)

-- What is written for a value means the value.
meant : (value : List ℕ) → unescaped (escaped value) ≡ value
meant [] = refl
meant (b ∷ value) = grind (arith, meant value, unescaped_is (escaped (b ∷ value)), unescaped_is (escaped value))

-- A boundary means itself.
pub boundary_means_itself : (bytes : List ℕ) → IsBoundary bytes → unescaped bytes ≡ bytes
boundary_means_itself bytes is = ap unescaped (sym (plain_text bytes (boundary_text bytes is))) ∙ meant bytes

-- What is written for a value in lowercase is what is written for the value, in lowercase.
lowered_escaped : (value : List ℕ) → lowered (escaped value) ≡ escaped (lowered value)
lowered_escaped [] = refl
lowered_escaped (b ∷ value) = grind (arith, nat_tests, lowered_escaped value)

-- A text without capitals is in lowercase.
pub no_capital : (bytes : List ℕ) → list_all (λ b. not (is_ascii_uppercase b)) bytes ≡ true → lowered bytes ≡ bytes
no_capital [] all = refl
no_capital (b ∷ bytes) all = grind (arith, nat_tests, all, no_capital bytes)

-- A value without capitals is kept as it is written, whatever its name.
pub kept_low : (name value : List ℕ) → lowered value ≡ value → lowered_value name (escaped value) ≡ escaped value
kept_low name value low = grind (arith, lowered_escaped, low)

-- What is written for a value means the value, in lowercase if it is kept in lowercase.
pub written_is_meant : WrittenIsMeant
written_is_meant name value = grind (arith, lowered_escaped, meant)

-- ---- what is written, character by character

-- A run ends at the end of a text exactly if all bytes are of its class.
pub whole_run : (class : ℕ → Bool) (bytes : List ℕ) → (prefix_len class bytes == length bytes) ≡ list_all class bytes
whole_run class [] = refl
whole_run class (b ∷ bytes) = grind (arith, nat_tests, one-add (prefix_len class bytes), whole_run class bytes)

-- A value is a token exactly if a run of token bytes ends at its end, and has some.
pub token_decides : (value : List ℕ)
    → is_token value ≡ ((prefix_len is_token_byte value == length value) && nat_lt 0 (prefix_len is_token_byte value))
token_decides [] = refl
token_decides (b ∷ value) = grind (arith, nat_tests, one-add (prefix_len is_token_byte value), whole_run is_token_byte (b ∷ value))

-- A search for a byte that no quoted string can contain passes the others.
pub quoted_len : (bytes : List ℕ) → ((i : ℕ) → get_or bytes i 0 < 256)
    → prefix_len (λ b. not (is_stop CONTROLS b)) bytes ≡ prefix_len is_quoted_byte bytes
unfolding is_quoted_byte
quoted_len [] few = refl
quoted_len (b ∷ bytes) few = grind (arith, nat_tests, or_zero_r b, few 0, quoted_len bytes (λ i. few (suc i)))

-- Of a class of all quoted text, a run from within quoted text at the start ends at the end exactly if all bytes are of the class.
pub run_after : (class : ℕ → Bool) → ((b : ℕ) → is_quoted_text_byte b ≡ true → class b ≡ true)
    → (value : List ℕ) (at : ℕ) → at ≤ prefix_len is_quoted_text_byte value
    → (at + prefix_len class (drop at value) == length value) ≡ list_all class value
run_after class wider value at passed =
    grind (arith, run_goes_on is_quoted_text_byte class wider value 0 at, whole_run class value, passed)

-- The bytes from the end of a token up to the next that isn't printable, or is a quote or a backslash, are quoted text from the start.
text_passed : (value : List ℕ) {plain text : ℕ} → plain ≡ 0 + prefix_len is_token_byte value
    → text ≡ plain + prefix_len (λ b. not (is_stop TEXT_STOPS b)) (drop plain value) → text ≤ prefix_len is_quoted_text_byte value
text_passed value {plain} {text} token is =
    let first = run_goes_on is_token_byte is_quoted_text_byte token_byte_text value 0 plain (omega arith) (omega (arith, token)) in
    let next = run_goes_on (λ b. not (is_stop TEXT_STOPS b)) is_quoted_text_byte are_quoted_text value plain text in
    omega (arith, first, next (omega (arith, is)) (omega (arith, is)))

-- Bytes of quoted text are those of a quoted string that need no backslash.
pub quoted_text : (bytes : List ℕ) → list_all is_quoted_text_byte bytes ≡ (list_all is_quoted_byte bytes && list_all is_plain bytes)
quoted_text [] = refl
quoted_text (b ∷ bytes) = grind (arith, nat_tests, quoted_text bytes)

-- The bytes of a value that is a token may occur in a quoted string.
token_safe : (value : List ℕ) → is_token value ≡ true → list_all is_quoted_byte value ≡ true
token_safe value is = safe_text value (token_text value is)

-- The run of token bytes, and what three searches find after it, decide the form of a value.
pub form_found : {value bytes : List ℕ} → bytes ≡ value → ((i : ℕ) → get_or value i 0 < 256) → {plain text control special : ℕ}
    → plain ≡ 0 + prefix_len is_token_byte bytes → text ≡ plain + prefix_len (λ b. not (is_stop TEXT_STOPS b)) (drop plain bytes)
    → control ≡ text + prefix_len (λ b. not (is_stop CONTROLS b)) (drop text bytes)
    → special ≡ text + prefix_len is_plain (drop text bytes) → (if plain == length value && nat_lt 0 plain then Some Token else
    if text == length value then Some Quoted else if control == length value then
    Some (if special == length value then Quoted else Escaped) else None)
    ≡ (if list_all is_quoted_byte value then Some (form_of value) else None)
form_found {value} same few {plain} {text} token goes control special =
    let passed : text ≤ prefix_len is_quoted_text_byte value = text_passed value (rw same at token) (rw same at goes) in
    let wider : (b : ℕ) → is_quoted_text_byte b ≡ true → (is_quoted_byte b ≡ true) × (is_plain b ≡ true) =
    λ b is. and_parts (is_quoted_byte b) _ is in
    let rest = quoted_len (drop text value) (λ i. rw (get_or-drop text value i) (few (text + i))) in
    let quoted = run_after is_quoted_byte (λ b is. (wider b is).0) value text passed in
    let unmarked = run_after is_plain (λ b is. (wider b is).1) value text passed in
    let most = prefix_len-le-length is_quoted_text_byte value in
    grind (
      arith,
      nat_tests,
      same,
      token,
      control,
      special,
      rest,
      quoted,
      unmarked,
      passed,
      most,
      whole_run is_quoted_text_byte value,
      token_decides value,
      token_safe value,
      quoted_text value,
    )

-- A search for a quote or a backslash passes the bytes that need no backslash.
plain_len : (class : Class) → ((b : ℕ) → is_stop class b ≡ (b == 34 || b == 92)) → (bytes : List ℕ)
    → prefix_len (λ b. not (is_stop class b)) bytes ≡ prefix_len is_plain bytes
plain_len class stops [] = refl
plain_len class stops (b ∷ bytes) = grind (arith, stops b, plain_len class stops bytes)

-- A search for a quote or a backslash passes the bytes that need no backslash.
pub plain_found : (class : Class) → ((b : ℕ) → is_stop class b ≡ (b == 34 || b == 92)) → (value : List ℕ) (from at : ℕ)
    → at ≡ end_of_run class value from → at ≡ from + prefix_len is_plain (drop from value)
plain_found class stops value from at is = omega (arith, is, plain_len class stops (drop from value))

-- Bytes that need no backslash are written as they are.
run_written : (bytes : List ℕ)
    → escaped bytes ≡ take (prefix_len is_plain bytes) bytes ++ escaped (drop (prefix_len is_plain bytes) bytes)
run_written [] = refl
run_written (b ∷ bytes) = grind (arith, nat_tests, one-add (prefix_len is_plain bytes), run_written bytes)

-- A value is written as it is up to the first byte that needs a backslash.
pub run_found : (value : List ℕ) (from at : ℕ) → at ≡ from + prefix_len is_plain (drop from value)
    → (escaped (drop from value) ≡ slice_range value from at ++ escaped (drop at value))
    × (at < length value → is_plain (get_or value at 0) ≡ false)
run_found value from at is =
    let run = run_is is_plain value from at is in
    let long : at - from ≡ prefix_len is_plain (drop from value) = omega (arith, is) in
    let rest : drop at value ≡ drop (at - from) (drop from value) = grind (arith, run.least, drop-drop (at - from) from value) in
    (rw (rest, long) (run_written (drop from value)), run.stops)

-- A backslash is written before a byte that needs one.
pub special_written : (value text whole : List ℕ) (from at : ℕ) → at < length value → is_plain (get_or value at 0) ≡ false
    → escaped (drop from value) ≡ slice_range value from at ++ escaped (drop at value) → text ++ escaped (drop from value) ≡ whole
    → ((text ++ slice_range value from at) ++ (backslash_byte ∷ get_or value at 0 ∷ [])) ++ escaped (drop (at + 1) value) ≡ whole
special_written value text whole from at within special run is = search (nat_tests, append_assoc, drop_more, rules)

-- ---- what is written in a form

-- Content that is kept is written as it is.
pub text_in-kept : (name bytes : List ℕ)
    → text_in (if is_token bytes then Token else Quoted) name bytes ≡ text_of_pair (name, bytes)
text_in-kept name bytes = grind arith

-- What is written for a value is a token exactly if the value is one.
all_tokens : (value : List ℕ) → list_all is_token_byte (escaped value) ≡ list_all is_token_byte value
unfolding is_token_byte
all_tokens [] = refl
all_tokens (b ∷ value) = grind (arith, nat_tests, all_tokens value)

-- A value is written in its form.
pub form_text : (name value : List ℕ) → text_in (form_of value) name value ≡ text_of_pair (name, escaped value)
form_text name [] = refl
form_text name (b ∷ value) = grind (arith, all_tokens (b ∷ value), plain_text (b ∷ value), token_text (b ∷ value))

-- A parameter in its form is written after all others.
pub last_written : (name value essence text : List ℕ) (pairs : List (List ℕ × List ℕ)) (form : Form)
    → text ≡ essence ++ text_of_pairs pairs
    → form ≡ form_of value → text ++ text_in form name value ≡ essence ++ text_of_pairs (pairs ++ ((name, escaped value) ∷ []))
last_written name value essence text pairs form is fits = grind (arith, form_text, flat_map-append, append-nil, append_assoc)

-- The rules for how a token is written.
pub ruleset token_written = (safe_text, plain_text, token_text)

pub ruleset boundary_written = (safe_text, plain_text, boundary_text)
