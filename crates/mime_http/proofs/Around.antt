-- White space around a text, and ASCII bytes in a text in UTF-8.
use Rattle.std.proofs.Common.{rules}
use Rattle.mime_search.{specs.Classes.end_of_run, specs.declared.class.Class.Class}
use Rattle.std.proofs.lemmas.List.{take-take}
use Rattle.mime_http.proofs.Common.{is_stop, length-drop, length-take-le, not, take-append-drop, drop, prefix_len, one-add, take_rest}
use Rattle.mime_http.proofs.Common.{AreSpaces, IsToken, AreTokenBytes-from_token, AreTokenBytes, IsAscii-cons, IsAscii-nil}
use Rattle.mime_http.proofs.Common.{IsCharBoundary-after_ascii, IsCharBoundary-before_ascii, IsUtf8, IsUtf8-append, IsUtf8-drop}
use Rattle.mime_http.proofs.Common.{IsUtf8-from_ascii, IsUtf8-take, List, [], and_parts, append-nil, arith, drop-append-add, get_or}
use Rattle.mime_http.proofs.Common.{get_or_from_slice_get, is_space, is_token_byte, length, length-append, nat_tests, refl}
use Rattle.mime_http.proofs.Common.{slice_get-prefix, take-append_seam, ℕ, ⊤, ◌++◌, ◌+◌, ◌<◌, ◌∷◌, and_from, ap, cond_both, false}
use Rattle.mime_http.proofs.Common.{if◌then◌else◌, list_all-append, suc, take, take_all, take_more, trim_end, trim_start, trimmed, ◌-◌, ◌≡◌}
use Rattle.mime_http.proofs.Common.{◌≤◌, HttpReads, MediaType, append_assoc, list_all, sym, ◌∙◌, IsUtf8-nil}
use Rattle.mime_http.proofs.{Runs.spaces-append}

-- ---- ASCII bytes

-- Each byte is ASCII.
abbrev pub AreAscii : List ℕ → Type 0
AreAscii [] = ⊤
AreAscii (b ∷ bytes) = (b < 128) × AreAscii bytes

-- Token bytes are ASCII.
pub token_bytes_ascii : (bytes : List ℕ) → AreTokenBytes bytes → AreAscii bytes
unfolding is_token_byte
token_bytes_ascii [] all = tt
token_bytes_ascii (b ∷ bytes) all = grind (arith, token_bytes_ascii bytes, and_parts, nat_tests)

-- White space is ASCII.
pub spaces_ascii : (bytes : List ℕ) → AreSpaces bytes → AreAscii bytes
spaces_ascii [] all = tt
spaces_ascii (b ∷ bytes) all = grind (arith, spaces_ascii bytes, and_parts, nat_tests)

-- A text in UTF-8 stays so with an ASCII byte before it.
pub put_one : (b : ℕ) (bytes : List ℕ) → b < 128 → IsUtf8 bytes → IsUtf8 (b ∷ bytes)
put_one b bytes ascii is = IsUtf8-append (b ∷ []) bytes (IsUtf8-from_ascii (b ∷ []) (IsAscii-cons b [] ascii IsAscii-nil)) is

-- A text in UTF-8 stays so with ASCII bytes before it.
pub put_ascii : (xs ys : List ℕ) → AreAscii xs → IsUtf8 ys → IsUtf8 (xs ++ ys)
put_ascii [] ys all is = is
put_ascii (b ∷ xs) ys all is = put_one b (xs ++ ys) all.0 (put_ascii xs ys all.1 is)

-- A text in UTF-8 stays so with a token before it.
pub put_token : (token bytes : List ℕ) → IsToken token → IsUtf8 bytes → IsUtf8 (token ++ bytes)
put_token token bytes is = put_ascii token bytes (token_bytes_ascii token (AreTokenBytes-from_token token is))

-- What stands before and after an ASCII byte of a text in UTF-8 is in UTF-8.
pub around : (run : List ℕ) (b : ℕ) (bytes : List ℕ) → b < 128 → IsUtf8 (run ++ (b ∷ bytes)) → IsUtf8 run × IsUtf8 bytes
around run b bytes ascii is =
    let whole : List ℕ = run ++ (b ∷ bytes) in
    let within : length run < length whole = omega (arith, length-append run (b ∷ bytes)) in
    let below : get_or whole (length run) 0 < 128 =
    grind (arith, get_or_from_slice_get whole (length run) b 0, slice_get-prefix run b bytes) in (
      rw take-append_seam at (IsUtf8-take whole (length run) is (IsCharBoundary-before_ascii whole (length run) within below)),
      rw drop-append-add at (IsUtf8-drop whole (length run + 1) is (IsCharBoundary-after_ascii whole (length run) is within below)),
    )

-- What follows ASCII bytes in a text in UTF-8 is in UTF-8.
pub past_ascii : (xs ys : List ℕ) → AreAscii xs → IsUtf8 (xs ++ ys) → IsUtf8 ys
past_ascii [] ys all is = is
past_ascii (b ∷ xs) ys all is = past_ascii xs ys all.1 (around [] b (xs ++ ys) all.0 is).1

-- A token, and what follows it in a text in UTF-8, are in UTF-8.
pub past_token : (token bytes : List ℕ) → IsToken token → IsUtf8 (token ++ bytes) → IsUtf8 token × IsUtf8 bytes
past_token token bytes is utf8 =
    let ascii = token_bytes_ascii token (AreTokenBytes-from_token token is) in
    (rw append-nil at (put_ascii token [] ascii IsUtf8-nil), past_ascii token bytes ascii utf8)

-- What stands before ASCII bytes at the end of a text in UTF-8 is in UTF-8.
pub before_ascii : (xs ys : List ℕ) → AreAscii ys → IsUtf8 (xs ++ ys) → IsUtf8 xs
before_ascii xs [] all is = rw append-nil at is
before_ascii xs (b ∷ ys) all is = (around xs b ys all.0 is).0

-- ---- a piece without the white space around it

-- Bytes are white space, and what is left without it.
pub split_white : (bytes : List ℕ) → (white : List ℕ) × AreSpaces white × (bytes ≡ white ++ trim_start bytes)
split_white [] = ([], refl, refl)
split_white (b ∷ bytes) =
    let rest = split_white bytes in
    cond_both (is_space b) _ _ (λ left. (white : List ℕ) × AreSpaces white × (b ∷ bytes ≡ white ++ left))
    (λ is. (b ∷ rest.0, and_from (is_space b) _ is rest.1, ap (λ x. b ∷ x) rest.2)) (λ other. ([], refl, refl))

-- Bytes without the white space at their start begin where the run of white space ends.
from_first : (bytes : List ℕ) → drop (prefix_len is_space bytes) bytes ≡ trim_start bytes
from_first [] = refl
from_first (b ∷ bytes) = grind (arith, one-add (prefix_len is_space bytes), from_first bytes)

-- What follows the run of white space at the start is what is kept.
pub first_kept : (bytes : List ℕ) (end : ℕ) → end ≡ prefix_len is_space bytes
    → take (length bytes - end) (drop end bytes) ≡ trim_start bytes
first_kept bytes end is = grind (arith, is, take_rest, from_first bytes)

-- Nothing is left of white space without white space at its start.
trimmed_start : (piece : List ℕ) → AreSpaces piece → trim_start piece ≡ []
trimmed_start [] all = refl
trimmed_start (b ∷ piece) all = grind (arith, trimmed_start piece)

-- Nothing is left of white space without white space at its ends.
pub trimmed_from_blank : (piece : List ℕ) → AreSpaces piece → trimmed piece ≡ []
trimmed_from_blank piece all = ap trim_end (trimmed_start piece all)

-- A byte at the end is left out if it is white space. Else all bytes stay.
trim_end-last : (bytes : List ℕ) (b : ℕ)
    → trim_end (bytes ++ (b ∷ [])) ≡ (if is_space b then trim_end bytes else bytes ++ (b ∷ []))
trim_end-last [] b = grind arith
trim_end-last (c ∷ bytes) b = grind (arith, trim_end-last bytes b, list_all-append is_space bytes (b ∷ []))

-- A byte before a position is left out if it is white space. Else all bytes up to the position stay.
pub last_trimmed : (piece : List ℕ) (end : ℕ) → 0 < end → end ≤ length piece → trim_end (take end piece)
    ≡ (if is_space (get_or piece (end - 1) 0) then trim_end (take (end - 1) piece) else take end piece)
last_trimmed piece end some within = grind (arith, take_more piece (end - 1) 0, trim_end-last (take (end - 1) piece))

-- Nothing is left out of bytes of which the last is no white space.
pub nothing_after : (piece : List ℕ) → (0 < length piece → is_space (get_or piece (length piece - 1) 0) ≡ false)
    → trim_end piece ≡ piece
nothing_after [] other = refl
nothing_after (b ∷ bytes) other = grind (arith, take_all (length bytes) bytes, last_trimmed (b ∷ bytes) (suc (length bytes)))

-- White space at the end is left out.
white_trimmed : (bytes white : List ℕ) → AreSpaces white → trim_end (bytes ++ white) ≡ trim_end bytes
white_trimmed [] [] all = refl
white_trimmed [] (b ∷ white) all = rw all refl
white_trimmed (b ∷ bytes) white all = grind (arith, white_trimmed bytes white all, list_all-append is_space (b ∷ bytes) white, all)

-- Bytes at none of which a search for other bytes stops are white space.
run_of_white : (class : Class) → ((b : ℕ) → is_stop class b ≡ not (is_space b)) → (bytes : List ℕ)
    → prefix_len (λ b. not (is_stop class b)) bytes ≡ length bytes → AreSpaces bytes
run_of_white class stops [] all = refl
run_of_white class stops (b ∷ bytes) all = search (run_of_white class stops bytes, one-add, rules)

-- A block in which a search for other bytes doesn't stop is left out.
pub block_trimmed : (class : Class) → ((b : ℕ) → is_stop class b ≡ not (is_space b)) → (piece : List ℕ) (start end : ℕ)
    → start ≤ end → end ≤ length piece → end_of_run class (take end piece) start ≡ end
    → trim_end (take start piece) ≡ trim_end (take end piece)
block_trimmed class stops piece start end least within is =
    let block : List ℕ = drop start (take end piece) in
    let long : length block ≡ end - start = grind (arith, length-drop start (take end piece), length-take-le end piece) in
    let white = run_of_white class stops block (omega (arith, is, long)) in
    sym (ap trim_end (sym (take-append-drop start (take end piece))) ∙ white_trimmed (take start (take end piece)) block white
    ∙ ap trim_end (take-take start end piece least))

-- ---- the white space around a value

-- Bytes are what is left of them without white space at their end, and white space.
pub split_end : (bytes : List ℕ) → (white : List ℕ) × AreSpaces white × (bytes ≡ trim_end bytes ++ white)
split_end [] = ([], refl, refl)
split_end (b ∷ bytes) =
    let rest = split_end bytes in
    cond_both (list_all is_space (b ∷ bytes)) _ _ (λ left. (white : List ℕ) × AreSpaces white × (b ∷ bytes ≡ left ++ white))
    (λ all. (b ∷ bytes, all, refl)) (λ other. (rest.0, rest.1, ap (λ x. b ∷ x) rest.2))

-- A value is what is left of it, with white space around it.
pub white_around : (value : List ℕ) → (before after : List ℕ) × AreSpaces before × AreSpaces after
    × (value ≡ before ++ (trimmed value ++ after))
white_around value =
    let first = split_white value in
    let last = split_end (trim_start value) in
    (first.0, last.0, first.1, last.1, first.2 ∙ ap (λ bytes. first.0 ++ bytes) last.2)

-- A value in UTF-8 is so without the white space around it.
pub utf8_trimmed : (value : List ℕ) → IsUtf8 value → IsUtf8 (trimmed value)
utf8_trimmed value utf8 =
    let (before, after, first, last, same) = white_around value in
    before_ascii _ after (spaces_ascii after last) (past_ascii before _ (spaces_ascii before first) (rw same at utf8))

-- A value is in UTF-8 if it is so without the white space around it.
pub utf8_around : (value : List ℕ) → IsUtf8 (trimmed value) → IsUtf8 value
utf8_around value utf8 =
    let (before, after, first, last, same) = white_around value in
    let ended = rw append-nil at (put_ascii after [] (spaces_ascii after last) IsUtf8-nil) in
    rw same (put_ascii before _ (spaces_ascii before first) (IsUtf8-append (trimmed value) after utf8 ended))

-- If nothing is left of it, it is white space.
pub blank_from_trimmed : (value : List ℕ) → trimmed value ≡ [] → AreSpaces value
blank_from_trimmed value none =
    let (before, after, first, last, same) = white_around value in rw (same, none) (spaces-append before after first last)

-- ---- HTTP's reading

-- What is read is read with more white space around it, too, and with another kept text.
pub white_more : {text value : List ℕ} {media : MediaType} (kept before after : List ℕ) → AreSpaces before → AreSpaces after
    → HttpReads text (record media { kept = kept }) → before ++ (text ++ after) ≡ value → HttpReads value media
white_more {value = value} kept before after first last reads same =
    let whole : (before ++ reads.before) ++ (reads.top ++ (47 ∷ (reads.sub ++ (reads.parameters ++ (reads.after ++ after))))) ≡ value =
    (simp append_assoc) ∙ (ap (λ bytes. before ++ (bytes ++ after)) reads.spelled ∙ same) in
    rw (← whole) (grind (arith, spaces-append))

-- A value is a media type if it is one without the white space around it.
pub reads_around : (value : List ℕ) (media : MediaType) → HttpReads (trimmed value) media → HttpReads value media
reads_around value media reads =
    let (before, after, first, last, same) = white_around value in white_more media.kept before after first last reads (sym same)
