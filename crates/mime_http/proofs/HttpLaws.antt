-- What is printed of a header's value: one text, which is read as its one media type, and needs memory only if it is long.
use Rattle.mime_http.proofs.Common.{Explains, InvalidToken, NoMemory, ParseError, rejected-from_fault, ◌≢◌, IsUtf8, IsUtf8-nil, List, Parts}
use Rattle.mime_http.proofs.Common.{Reads, [], answer_of, arith, length, media_of_parts, read, subst, text_of_parts, ℕ, ◌≡◌, IsPrinted}
use Rattle.mime_http.proofs.Common.{MediaType}
use Rattle.mime_http.proofs.Common.{OneHttpReading, OnePrintedText, PrintedIsRead, anew, ap, as_it_stands, one_reading, sym, trimmed}
use Rattle.mime_http.proofs.Common.{with_pairs, ◌∙◌, kept_is_read, HttpReads, Err, HttpExplains, IfErr, IsAccepted, IsHttpMediaType}
use Rattle.mime_http.proofs.Common.{ValueNeedsMemory, Ok, Result, codes, is_token_byte, refl, ◌<◌, ◌≤◌, IsOk}
use Rattle.mime_http.proofs.Around.{put_ascii, put_one, put_token, reads_around}
use Rattle.mime_http.proofs.ReadBack.{answered_is_http}
use Rattle.mime_http.proofs.ReadForth.{AreFound, http_is_answered}
use Rattle.mime_http.proofs.Written.{length-pairs, lengths, parts_are_read}
use Rattle.mime_http.proofs.PlainIsHttp.{plain_is_http}
use Rattle.mime_http.proofs.ReadFaults.{no_fault}
use Rattle.mime_http.specs.declared.value.FieldError.{FieldError}
use Rattle.mime_http.specs.declared.value.FieldError.TheVariants.{NotUtf8, Invalid}
use Rattle.mime_http.specs.declared.value.FieldError.TheVariants as field

-- ---- what is written anew

-- The parts that are read of a value are found in it.
are_found : (value : List ℕ) (parts : Parts) → answer_of value ≡ read parts → AreFound value parts
are_found value parts is = grind (arith, http_is_answered value (media_of_parts parts) (answered_is_http value parts is))

-- What is written of the parts of a value is read as their media type.
pub written_reads : (value : List ℕ) (parts : Parts) → answer_of value ≡ read parts → Reads (text_of_parts parts) (media_of_parts parts)
written_reads value parts is = grind (arith, are_found, parts_are_read)

-- What is written of the parts of a value in UTF-8 is in UTF-8.
pub written_is_utf8 : (value : List ℕ) (parts : Parts) → IsUtf8 value → answer_of value ≡ read parts
    → IsUtf8 (text_of_parts parts)
written_is_utf8 value parts utf8 is =
    let found = are_found value parts is in
    put_token parts.top _ found.is_top (put_one 47 _ (omega arith) (put_token parts.sub _ found.is_sub (found.utf8 utf8)))

-- As many bytes are written of parts as are kept of their media type.
pub written_length : (parts : Parts) → length (media_of_parts parts).kept ≡ length (text_of_parts parts)
written_length parts = grind (arith, lengths, length-pairs)

-- ---- the laws

-- Two media types of a value, written anew, are the same.
pub same_anew : (value : List ℕ) (first second : MediaType) → HttpReads value first → HttpReads value second
    → with_pairs first first.pairs ≡ with_pairs second second.pairs
same_anew value first second one other =
    let here = http_is_answered value first one in
    let there = http_is_answered value second other in
    cc (here.1, there.1, here.2, there.2)

-- A value is one media type.
pub one_http_reading : OneHttpReading
one_http_reading value first second one other =
    let same = same_anew value first second one other in
    (ap (λ (media : MediaType). media.essence) same, ap (λ (media : MediaType). media.pairs) same)

-- One text is printed of a value.
pub one_printed_text : OnePrintedText
one_printed_text value first second one (as_it_stands _ _ reads) other (as_it_stands _ _ again) =
    one_reading (trimmed value) first second reads again
one_printed_text value first second one (as_it_stands _ _ reads) other (anew _ _ isnt is) = absurd (isnt (first, reads))
one_printed_text value first second one (anew _ _ isnt is) other (as_it_stands _ _ again) = absurd (isnt (second, again))
one_printed_text value first second one (anew _ _ isnt is) other (anew _ _ not same) =
    is ∙ same_anew value first second one other ∙ sym same

-- What is printed of a value is read as the same media type, by the library and as HTTP defines it.
pub printed_is_read : PrintedIsRead
printed_is_read value media is (as_it_stands _ _ reads) =
    let kept = kept_is_read (trimmed value) media reads in (kept, plain_is_http media.kept media kept)
printed_is_read value media is (anew _ _ isnt same) =
    let (parts, answered, media_is, found) = http_is_answered value media is in
    let kept = kept_is_read (text_of_parts parts) media (grind (arith, media_is, same, written_reads value parts answered)) in
    (kept, plain_is_http media.kept media kept)

-- ---- what is read of a value

-- What the library reads without the white space around it is read and printed as it stands.
pub stands : (value : List ℕ) (media : MediaType) → Reads (trimmed value) media → HttpReads value media × IsPrinted value media
stands value media reads = (reads_around value media (plain_is_http (trimmed value) media reads), as_it_stands value media reads)

-- A value that the library reads without the white space around it needs memory if more than 40 bytes of it are kept.
pub stands_needs : (value : List ℕ) → Explains (trimmed value) NoMemory → ValueNeedsMemory value
stands_needs value (media, reads, long) =
    let (is, printed) = stands value media reads in (media, is, printed, long)

module _ {value text : List ℕ} (parts : Parts) (isnt : ¬ (IsAccepted (trimmed value))) (answered : answer_of value ≡ read parts)
    (same : text ≡ text_of_parts parts) where
  -- What is written anew of a value that the library rejects is read as the value, which is printed so.
  pub anew_is : (media : MediaType) → Reads text media → HttpReads value media × IsPrinted value media
  anew_is media reads =
      let is = one_reading (text_of_parts parts) media (media_of_parts parts) (rw same at reads) (written_reads value parts answered) in
      rw is (answered_is_http value parts answered, anew value (media_of_parts parts) isnt refl)

  -- The value needs memory if that is long.
  pub anew_needs : 40 < length text → ValueNeedsMemory value
  anew_needs long =
      let (is, printed) = anew_is (media_of_parts parts) (rw same (written_reads value parts answered)) in
      (media_of_parts parts, is, printed, omega (arith, long, ap length same, written_length parts))

  -- It does if reading what is written does.
  pub reading_needs : Explains text NoMemory → ValueNeedsMemory value
  reading_needs (media, reads, long) =
      let (is, printed) = anew_is media reads in (media, is, printed, long)

-- ---- errors

-- The error for a media type is that memory ran out.
pub error_is_memory : (value : List ℕ) (error : FieldError) → IsUtf8 value → IsHttpMediaType value → HttpExplains value error
    → error ≡ field.NoMemory
error_is_memory value (NotUtf8 pos) utf8 is why = absurd (why.0 utf8)
error_is_memory value (Invalid fault) utf8 is why = absurd (no_fault value fault is why.1)
error_is_memory value field.NoMemory utf8 is why = refl

-- A media type of which at most 40 bytes are printed needs no memory.
pub short_needs_none : (value : List ℕ) (media : MediaType) → HttpReads value media → IsPrinted value media
    → length media.kept ≤ 40 → ¬ (ValueNeedsMemory value)
short_needs_none value media reads printed few (other, is, stands, long) =
    let same = one_printed_text value media other reads printed is stands in
    absurd (omega (arith, few, long, ap (λ (it : MediaType). length it.kept) same))

-- A media type of which at most 40 bytes are printed has no error.
pub short_has_none : {T : Type 0} (value : List ℕ) (media : MediaType) → IsUtf8 value → HttpReads value media
    → IsPrinted value media
    → length media.kept ≤ 40 → (result : Result T FieldError) → IfErr result (HttpExplains value) → IsOk result
short_has_none value media utf8 reads printed few (Ok mime) explained = refl
short_has_none value media utf8 reads printed few (Err error) why =
    let needs = subst (HttpExplains value) (error_is_memory value error utf8 (media, reads) why) why in
    absurd (short_needs_none value media reads printed few needs.1)

-- For `*/*`, three bytes are printed.
pub star_has_none : {T : Type 0} (value : List ℕ) → value ≡ codes "*/*" → IsUtf8 value × ((result : Result T FieldError)
    → IfErr result (HttpExplains value) → IsOk result)
unfolding is_token_byte
star_has_none {T} value is =
    let star : List ℕ = codes "*/*" in
    let utf8 = put_ascii star [] (omega arith) IsUtf8-nil in
    let (reads, printed) = stands star _ (parts_are_read (record { top = codes "*"; sub = codes "*"; pairs = [] }) refl refl tt) in
    rw is (utf8, short_has_none star _ utf8 reads printed (omega arith))

-- A text that has a fault isn't accepted.
pub not_accepted : (text : List ℕ) (fault : ParseError) → fault ≢ NoMemory → Explains text fault → ¬ (IsAccepted text)
not_accepted text NoMemory other why = absurd (other refl)
not_accepted text (InvalidToken pos byte) other why = rejected-from_fault text (InvalidToken pos byte) why
not_accepted text fault other why = rejected-from_fault text fault why
