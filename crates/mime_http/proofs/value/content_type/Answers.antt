-- What the library reads is what HTTP writes, with the white space around it; and a short value is always read.
use Rattle.mime_http.proofs.Common.{Err, Explains, HttpExplains, HttpReads, IfErr, IfErr-weaker, IfOk, IsPrinted, IsUtf8, List}
use Rattle.mime_http.proofs.Common.{MediaType, Ok, OwnedMedia, Reads, Result, subst, trimmed, ℕ, ◌≡◌, ◌≢◌}
use Rattle.mime_http.proofs.HttpLaws.{error_is_memory, short_has_none, star_has_none, stands}
use Rattle.mime_http.specs.declared.value.FieldError.{FieldError}
use Rattle.mime_http.specs.declared.value.FieldError.TheVariants.{NoMemory}
use Rattle.mime_http.proofs.value.content_type.Goals as goal

-- A value that the library reads without the white space around it is read and printed as it stands.
as_it_is : (value bytes text : List ℕ) (media : MediaType) → bytes ≡ value → text ≡ trimmed bytes → Reads text media
    → HttpReads value media × IsPrinted value media
as_it_is value bytes text media same is reads = stands value media (rw (is, same) at reads)

-- What is read is read of a value in UTF-8, and is printed.
read_and_printed : (value : List ℕ) (result : Result OwnedMedia FieldError) → IsUtf8 value
    → IfOk result (λ mime. HttpReads value mime.media × IsPrinted value mime.media)
    → IfOk result (λ mime. IsUtf8 value × HttpReads value mime.media) × IfOk result (λ mime. IsPrinted value mime.media)
read_and_printed value (Ok mime) utf8 is = ((utf8, is.0), is.1)
read_and_printed value (Err error) utf8 is = (tt, tt)

pub returns-in-Err-clause-star : goal.returns-in-Err-clause-star
returns-in-Err-clause-star c = λ is. absurd (c.in-Err.ensures.cases.0 (star_has_none {T = OwnedMedia} c.args.value.now is).0)

pub returns-in-Ok-from_str-clause-http : goal.returns-in-Ok-from_str-clause-http
returns-in-Ok-from_str-clause-http c =
    (c.in-Ok.ensures.cases.1, (as_it_is _ _ _ _ c.in-Ok.ensures.cases.0 c.trimmed_text.ensures c.in-Ok-from_str.ensures.read).0)

pub returns-in-Ok-from_str-clause-kept : goal.returns-in-Ok-from_str-clause-kept
returns-in-Ok-from_str-clause-kept c =
    (as_it_is _ _ _ _ c.in-Ok.ensures.cases.0 c.trimmed_text.ensures c.in-Ok-from_str.ensures.read).1

-- The fault is that of the value without the white space around it.
why : (c : goal.After-content_type_after) → Explains (trimmed c.in-Ok.text.now) c.fault.result.now
why c = rw (c.trimmed_text.ensures, ← c.fault.ensures) at c.in-Err-from_str.ensures.explained

-- What is read of the value as a string is read of the value.
read : (c : goal.After-content_type_after)
    → IfOk c.content_type_after.result (λ mime. IsUtf8 c.args.value.now × HttpReads c.args.value.now mime.media)
    × IfOk c.content_type_after.result (λ mime. IsPrinted c.args.value.now mime.media)
read c =
    let (same, utf8) = c.in-Ok.ensures.cases in
    read_and_printed c.args.value.now c.content_type_after.result utf8
    (subst (λ text. IfOk c.content_type_after.result (λ mime. HttpReads text mime.media × IsPrinted text mime.media)) same
    (c.content_type_after.ensures.http (why c)))

pub returns-in-Err-from_str-clause-http : goal.returns-in-Err-from_str-clause-http
returns-in-Err-from_str-clause-http c = (read c).0

pub returns-in-Err-from_str-clause-kept : goal.returns-in-Err-from_str-clause-kept
returns-in-Err-from_str-clause-kept c = (read c).1

pub returns-in-Err-from_str-clause-explained : goal.returns-in-Err-from_str-clause-explained
returns-in-Err-from_str-clause-explained c =
    subst (λ text. IfErr c.content_type_after.result (HttpExplains text)) c.in-Ok.ensures.cases.0
    (c.content_type_after.ensures.explained (why c))

pub returns-in-Err-from_str-clause-short : goal.returns-in-Err-from_str-clause-short
returns-in-Err-from_str-clause-short c = λ media utf8 reads printed few.
    short_has_none c.args.value.now media utf8 reads printed few c.content_type_after.result
    (returns-in-Err-from_str-clause-explained c)

pub returns-in-Err-from_str-clause-accepted : goal.returns-in-Err-from_str-clause-accepted
returns-in-Err-from_str-clause-accepted c = λ utf8 is.
    IfErr-weaker c.content_type_after.result (HttpExplains _) (λ error. error ≡ NoMemory)
    (λ error. error_is_memory c.args.value.now error utf8 is)
    (returns-in-Err-from_str-clause-explained c)

pub returns-in-Err-from_str-clause-rejected : goal.returns-in-Err-from_str-clause-rejected
returns-in-Err-from_str-clause-rejected c = λ no.
    IfErr-weaker c.content_type_after.result (HttpExplains _) (λ error. error ≢ NoMemory)
    (λ error why is. let needs = (subst (HttpExplains c.args.value.now) is why).1 in no (needs.0, needs.1))
    (returns-in-Err-from_str-clause-explained c)
