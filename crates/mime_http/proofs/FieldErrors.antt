-- A header's value that is a media type has no error, and any other has one, but that memory ran out.
use Rattle.std.proofs.Common.{List, ap, refl, sym, ℕ, ◌∙◌, ◌≡◌, ◌≢◌}
use Rattle.std.{specs.Str.IsUtf8, proofs.lemmas.Str.utf8_valid_len-IsValidUpTo}
use Rattle.mime_http.specs.HttpFaults.{HttpExplains}
use Rattle.mime_http.specs.HttpMediaType.{IsHttpMediaType}
use Rattle.mime_http.proofs.ReadFaults.{no_fault, one_http_fault}
use Rattle.mime_http.specs.declared.value.FieldError.{FieldError, TheVariants.Invalid, TheVariants.NoMemory, TheVariants.NotUtf8}

-- A media type has no error.
pub no_field_error : (value : List ℕ) (error : FieldError) → IsUtf8 value → IsHttpMediaType value → error ≢ NoMemory
    → ¬ (HttpExplains value error)
no_field_error value (NotUtf8 pos) utf8 is some why = why.0 utf8
no_field_error value (Invalid fault) utf8 is some why = no_fault value fault is why.1
no_field_error value NoMemory utf8 is some why = some refl

-- A rejected value has one error.
pub one_field_error : (value : List ℕ) (error other : FieldError) → error ≢ NoMemory → other ≢ NoMemory → HttpExplains value error
    → HttpExplains value other → error ≡ other
one_field_error value NoMemory other some more why too = absurd (some refl)
one_field_error value error NoMemory some more why too = absurd (more refl)
one_field_error value (NotUtf8 pos) (NotUtf8 at) some more why too =
    ap NotUtf8 (sym (utf8_valid_len-IsValidUpTo value pos why.1) ∙ utf8_valid_len-IsValidUpTo value at too.1)
one_field_error value (NotUtf8 pos) (Invalid fault) some more why too = absurd (why.0 too.0)
one_field_error value (Invalid fault) (NotUtf8 pos) some more why too = absurd (too.0 why.0)
one_field_error value (Invalid fault) (Invalid other) some more why too =
    let only = (one_http_fault value (λ is. no_fault value fault is why.1)).2 in ap Invalid (only fault why.1 ∙ sym (only other too.1))
