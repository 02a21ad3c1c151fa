-- Worked facts of the pages `HttpMediaType`, `HttpFaults` and `HttpList`, and of `Unescaped`, `Written` and `Boundary`: values that are
-- media types, values that aren't, their faults, and what is printed of a value.
use Rattle.mime_http.proofs.Common.{Parameter, SyntaxTree, IsUtf8-nil, HttpExplains, HttpReads, InvalidToken, IsBoundary, IsBoundaryOf}
use Rattle.mime_http.proofs.Common.{IsContent-taken, IsHttpFault, IsHttpMediaType, IsPrinted, List, MediaType, media_of_parts, MissingQuote}
use Rattle.mime_http.proofs.Common.{MissingSubtype, MissingValue, ValueNeedsMemory, None, Parts, [], anew, ap, arith, as_it_stands}
use Rattle.mime_http.proofs.Common.{codes, escaped, false, final, is_quoted_byte, is_token_byte, is_token}
use Rattle.mime_http.proofs.Common.{length, listed, others, quoted, refl, same_Some, stopped-from_walk, sym, text_of_pair, text_of_pairs}
use Rattle.mime_http.proofs.Common.{trimmed, true, true≢false, unescaped, with_pair, with_pairs, ℕ, ◌++◌, ◌∷◌, ◌≡◌, ◌≢◌}
use Rattle.mime_http.specs.{declared.value.FieldError.TheVariants.Invalid, declared.value.FieldError.TheVariants.NotUtf8}
use Rattle.mime_http.specs.{declared.value.FieldError.TheVariants.NoMemory as OutOfMemory, HttpFaults.fault_position}
use Rattle.mime_http.proofs.{Around.white_more, Around.put_ascii, HttpLaws.one_printed_text, HttpLaws.short_needs_none, HttpLaws.anew_needs}
use Rattle.mime_http.proofs.{HttpLaws.anew_is, HttpLaws.written_reads, ReadBack.answered_is_http, ReadFaults.answered_fault}
use Rattle.mime_http.proofs.{ReadFaults.fault_answered, ReadFaults.rejected_is_none as none}
use Rattle.mime_facts.proofs.ValueFacts.{differ}

-- This is ` text/HTML ;; charset="UTF-8" `.
abbrev value : List ℕ
value = codes " text/HTML ;; charset=\"UTF-8\" "

-- This is its media type, with this kept text.
abbrev html_type : List ℕ → MediaType
html_type kept = record {
  essence = codes "text/html";
  slash = 4;
  plus = None;
  pairs = (codes "charset", codes "utf-8") ∷ [];
  kept = kept;
}

-- These are its parts as they stand.
parts : Parts
parts = record { top = codes "text"; sub = codes "HTML"; pairs = (codes "charset", codes "UTF-8") ∷ [] }

-- This is the same without a space before the semicolon, which the library accepts without the white space around it.
abbrev plain_value : List ℕ
plain_value = codes "\ttext/HTML;charset=\"UTF-8\" "

-- Both are read so, whatever is kept.
both_read : (kept : List ℕ) → HttpReads value (html_type kept) × HttpReads plain_value (html_type kept)
unfolding parts is_token_byte is_quoted_byte
both_read kept = (
  white_more _ [] [] refl refl (answered_is_http value parts refl) refl,
  white_more _ [] [] refl refl (answered_is_http plain_value parts refl) refl,
)

-- No white space stands at the slash, nor before an equals sign or after it; no parameter is without a semicolon before it, or a value; and
-- each quoted string is closed.
not_allowed : ¬ (IsHttpMediaType (codes "a /b")) × ¬ (IsHttpMediaType (codes "a/b; p =x")) × ¬ (IsHttpMediaType (codes "a/b; p= x"))
    × ¬ (IsHttpMediaType (codes "a/b p=x")) × ¬ (IsHttpMediaType (codes "a/b;p= ;q=x")) × ¬ (IsHttpMediaType (codes "a/b;p=\"x"))
unfolding is_token_byte is_quoted_byte
not_allowed = (none _ _ refl, none _ _ refl, none _ _ refl, none _ _ refl, none _ _ refl, none _ _ refl)

-- ---- faults

-- `   a/b c`: the `c` and not the white space, which may follow a media type; `text `: the space, since nothing goes on so; ` text/`: its
-- subtype, and neither a value nor a quote.
faults : IsHttpFault (codes "   a/b c") (InvalidToken 7 99) × ¬ (IsHttpFault (codes "   a/b c") (InvalidToken 6 32))
    × IsHttpFault (codes "text ") (InvalidToken 4 32) × IsHttpFault (codes " text/") MissingSubtype
    × ¬ (IsHttpFault (codes " text/") MissingValue) × ¬ (IsHttpFault (codes " text/") MissingQuote)
unfolding is_token_byte
faults = (
  answered_fault (codes "   a/b c") _ refl,
  (λ fault. absurd (cc (fault_answered (codes "   a/b c") (InvalidToken 6 32) fault))),
  answered_fault (codes "text ") _ refl,
  answered_fault (codes " text/") _ refl,
  (λ fault. absurd (cc (fault_answered (codes " text/") MissingValue fault))),
  λ fault. absurd (cc (fault_answered (codes " text/") MissingQuote fault)),
)

-- A value fails at its fault, or at its end if something is missing or memory ran out.
positions : (fault_position (codes "a b") (NotUtf8 1) ≡ 1) × (fault_position (codes "a b") (Invalid (InvalidToken 1 32)) ≡ 1)
    × (fault_position (codes " text/") (Invalid MissingSubtype) ≡ 6) × (fault_position (codes "a/b") OutOfMemory ≡ 3)
positions = (refl, refl, refl, refl)

-- ---- what is printed

-- If one text is printed for a value, no text of another length is.
no_other_text : {value kept : List ℕ} (other : List ℕ) → ((kept : List ℕ) → HttpReads value (html_type kept))
    → IsPrinted value (html_type kept) → length kept ≢ length other → ¬ (IsPrinted value (html_type other))
no_other_text {value} {kept} other reads printed differs is =
    differs (ap (λ (media : MediaType). length media.kept) (one_printed_text value (html_type kept) (html_type other) (reads kept) printed
    (reads other) is))

-- A value that the library rejects is printed anew.
printed_anew : IsPrinted value (html_type (codes "text/html; charset=utf-8"))
unfolding is_token_byte is_quoted_byte
printed_anew = anew value _ (stopped-from_walk (trimmed value) refl) refl

-- A value that the library accepts is printed as it stands.
printed_as_it_stands : IsPrinted plain_value (html_type (codes "text/html;charset=\"utf-8\""))
unfolding is_token_byte is_quoted_byte
printed_as_it_stands =
    let pair : Parameter = quoted (codes "charset") (codes "UTF-8") [] in
    let tree : SyntaxTree = record { top = codes "text"; sub = codes "HTML"; tail = listed (final [] pair) } in
    let content = IsContent-taken (codes "UTF-8") refl refl in
    as_it_stands plain_value _
    (record { tree = tree; well_formed = (refl, refl, (refl, (refl, content, refl))); spelled = refl; valued = refl })

-- For the first value nothing with quotes is printed, since a token needs none; for the second nothing anew, and no white space.
not_printed : ¬ (IsPrinted value (html_type (codes "text/html; charset=\"utf-8\"")))
    × ¬ (IsPrinted plain_value (html_type (codes "text/html; charset=utf-8")))
    × ¬ (IsPrinted plain_value (html_type (codes "text/html;charset=\"utf-8\" ")))
not_printed = (
  no_other_text _ (λ kept. (both_read kept).0) printed_anew (omega arith),
  no_other_text _ (λ kept. (both_read kept).1) printed_as_it_stands (omega arith),
  no_other_text _ (λ kept. (both_read kept).1) printed_as_it_stands (omega arith),
)

-- ---- memory

-- ` a/b;;p=` and letters print `a/b; p=` and the letters.
abbrev lettered : List ℕ → List ℕ
lettered letters = codes " a/b;;p=" ++ letters

abbrev letter_parts : List ℕ → Parts
letter_parts letters = record { top = codes "a"; sub = codes "b"; pairs = (codes "p", letters) ∷ [] }

-- A value that prints 41 bytes needs memory. One that prints 40 needs none, nor does what is no media type.
memory : ValueNeedsMemory (lettered (codes "abcdefghijklmnopqrstuvwxyzabcdefgh"))
    × ¬ (ValueNeedsMemory (lettered (codes "abcdefghijklmnopqrstuvwxyzabcdefg"))) × ¬ (ValueNeedsMemory (codes "a b"))
unfolding is_token_byte is_quoted_byte
memory =
    let value : List ℕ = lettered (codes "abcdefghijklmnopqrstuvwxyzabcdefg") in
    let parts = letter_parts (codes "abcdefghijklmnopqrstuvwxyzabcdefg") in
    let isnt = stopped-from_walk (codes "a/b;;p=abcdefghijklmnopqrstuvwxyzabcdefg") refl in
    let (reads, printed) = anew_is {value = value} parts isnt refl refl (media_of_parts parts) (written_reads value parts refl) in (
      anew_needs (letter_parts (codes "abcdefghijklmnopqrstuvwxyzabcdefgh"))
          (stopped-from_walk (codes "a/b;;p=abcdefghijklmnopqrstuvwxyzabcdefgh") refl) refl refl (omega arith),
      short_needs_none _ _ reads printed (omega arith),
      λ needs. none (codes "a b") _ refl (needs.0, needs.1),
    )

-- Memory runs out for neither, and `a b` is rejected for its fault.
reasons : ¬ (HttpExplains (codes "a b") OutOfMemory) × HttpExplains (codes "a b") (Invalid (InvalidToken 1 32))
unfolding is_token_byte
reasons = (λ why. memory.2 why.1, (put_ascii (codes "a b") [] (omega arith) IsUtf8-nil, answered_fault (codes "a b") _ refl))

-- ---- quoted content

-- `a\"b\\` means `a"b\`, and not itself; what is written for `a"b\` is `a\"b\\`, and for a quote not a quote.
contents : (unescaped (codes "a\\\"b\\\\") ≡ codes "a\"b\\") × (unescaped (codes "\\\"") ≢ codes "\\\"")
    × (escaped (codes "a\"b\\") ≡ codes "a\\\"b\\\\") × (escaped (codes "\"") ≢ codes "\"")
contents = (refl, differ _ _ refl, refl, differ _ _ refl)

-- ---- parameters

-- `utf-8` is a token; `a b` and nothing aren't. A token is written as it is, and any other value in quotes, with its backslashes.
written : (is_token (codes "utf-8") ≡ true) × (is_token (codes "a b") ≡ false) × (is_token [] ≡ false)
    × (text_of_pair (codes "charset", codes "utf-8") ≡ codes "; charset=utf-8")
    × (text_of_pair (codes "charset", codes "utf-8") ≢ codes "; charset=\"utf-8\"")
    × (text_of_pair (codes "p", codes "a\\\"b") ≡ codes "; p=\"a\\\"b\"") × (text_of_pair (codes "p", []) ≡ codes "; p=\"\"")
unfolding is_token_byte
written = (refl, refl, refl, refl, differ _ _ refl, refl, refl)

-- This is `text/html; charset=utf-8; p=1; q="a b"; p=2`.
page : MediaType
page = with_pairs (record { essence = codes "text/html"; slash = 4; plus = None; pairs = []; kept = [] })
    ((codes "charset", codes "utf-8") ∷ (codes "p", codes "1") ∷ (codes "q", codes "a b") ∷ (codes "p", codes "2") ∷ [])

-- The page is written with all its pairs, and no pair as nothing; both values of `p` go, whatever the name's case, and the others stay in
-- their order.
put : (page.kept ≡ codes "text/html; charset=utf-8; p=1; q=\"a b\"; p=2") × (text_of_pairs [] ≡ [])
    × (others (codes "P") page.pairs ≡ (codes "charset", codes "utf-8") ∷ (codes "q", codes "a b") ∷ [])
    × ((with_pair page (codes "p") (codes "3")).kept ≡ codes "text/html; charset=utf-8; q=\"a b\"; p=3")
    × ((with_pair page (codes "p") (codes "3")).kept ≢ codes "text/html; charset=utf-8; p=3; q=\"a b\"")
    × ((with_pair page (codes "p") (codes "3")).slash ≡ 4)
unfolding is_token_byte page
put = (refl, refl, refl, refl, differ _ _ refl, refl)

-- ---- boundaries

-- `a b` is one; nothing, a space at the end, a semicolon and 71 bytes aren't.
boundaries : IsBoundary (codes "a b") × ¬ (IsBoundary []) × ¬ (IsBoundary (codes "a ")) × ¬ (IsBoundary (codes "a;b"))
    × ¬ (IsBoundary (codes "12345678901234567890123456789012345678901234567890123456789012345678901"))
boundaries = (
  record { most = omega arith; all = refl; end = λ is. absurd (omega (arith, is)) },
  (λ is. is.end),
  (λ is. is.end refl),
  (λ is. true≢false (sym is.all)),
  λ is. absurd (omega (arith, is.most)),
)

-- That of `multipart/mixed; boundary="a b"; boundary=c` is `a b`, and not `c`; a `text/plain` has none.
mixed : MediaType
mixed = with_pairs (record { essence = codes "multipart/mixed"; slash = 9; plus = None; pairs = []; kept = [] })
    ((codes "boundary", codes "a b") ∷ (codes "boundary", codes "c") ∷ [])

-- The boundary of the parts is `a b`, and no other.
boundary_of : IsBoundaryOf mixed (codes "a b") × ¬ (IsBoundaryOf mixed (codes "c"))
    × ¬ (IsBoundaryOf (record mixed { essence = codes "text/plain"; slash = 4 }) (codes "a b"))
    × ¬ (IsBoundaryOf (record mixed { pairs = (codes "boundary", codes "a ") ∷ [] }) (codes "a "))
unfolding mixed
boundary_of = (
  record { multipart = refl; found = refl; is = boundaries.0 },
  (λ is. differ (codes "a b") (codes "c") refl (same_Some _ _ is.found)),
  (λ is. differ (codes "text") (codes "multipart") refl is.multipart),
  λ is. boundaries.2 is.is,
)
