-- Each call for one value has one outcome, unless memory runs out.
use Rattle.std.proofs.Common.{◌≡◌, ◌≢◌, ℕ, ◌⊎◌, inl, inr, List, [], ◌∷◌, refl, sym, ◌∙◌, subst, arith, ⊎_elim, codes, rules}
use Rattle.std.specs.Prelude.{bytes_eq}
use Rattle.std.specs.{List.list_all, Option.option_map}
use Rattle.std.proofs.lemmas.Bool.{cases_Bool, true≢false}
use Rattle.std.proofs.lemmas.Option.{same_Some, none-some}
use Rattle.std.proofs.lemmas.Slice.Eq.{bytes_eq-Decides}
use Rattle.mime.specs.{Bytes.is_quoted_byte, Grammar.IsToken, Values.MediaType, Values.type_of, declared.scan.fault.ParseError.ParseError}
use Rattle.mime.proofs.HandedOut.{kept_is_safe, kept_is_read}
use Rattle.mime_http.specs.Boundary.{IsBoundary, IsBoundaryOf}
use Rattle.mime_http.specs.HttpMediaType.{HttpReads}
use Rattle.mime_http.specs.HttpList.{FieldReads}
use Rattle.mime_http.specs.HttpFaults.{IsHttpFault, HttpExplains}
use Rattle.mime_http.specs.Ranges.{first_value}
use Rattle.mime_http.specs.Unescaped.{unescaped}
use Rattle.mime_http.specs.Written.{escaped, with_pairs}
use Rattle.mime_http.specs.declared.value.FieldError.{FieldError}
use Rattle.mime_http.specs.declared.value.FieldError.TheVariants.{NotUtf8, Invalid}
use Rattle.mime_http.proofs.HandedOut.{utf8_or_not, read_or_not, content_of_escaped, one_printed_text, printed_is_read, no_field_error}
use Rattle.mime_http.proofs.HandedOut.{one_field_error, one_http_fault, with_pair_is_read}
use Rattle.mime_c.specs.Strings.{ComeBack}
use Rattle.mime_c.specs.Answers.{number_of, number_of_error}
use Rattle.mime_c.specs.ParameterAnswers.{AnswersBoundary, boundary_is, has_no_boundary, boundary_has_no_memory}
use Rattle.mime_c.specs.ParameterAnswers.{CanBeParameter, set_parameter}
use Rattle.mime_c.specs.ParameterAnswers.{IsSet, is_set, isnt_parameter}
use Rattle.mime_c.specs.Laws.{HasOne, HeaderReadsToOne, BoundaryIsOne, UnescapesToOne, SetsToOne}
use Rattle.mime_c.specs.declared.TheConstants.{MIME_NO_MEMORY}
use Rattle.mime_c.proofs.OneOutcome.{one_is, one_success, one_in_room, IsReading, one_of_reading, one_writing, valid_up_to}
use Rattle.mime_c.proofs.HeaderOutcome.{some_or_none}
use Rattle.mime_c.proofs.HeaderRoom.{read_anew}
use Rattle.mime_c.proofs.NoZero.{texts_come_back}
use Rattle.mime_c.proofs.ParameterRoom.{set_comes_back, boundary_comes_back}

-- ---- the reading of a value

-- A fault's answer isn't that memory ran out.
value_number : (value : List ℕ) (fault : ParseError) → IsHttpFault value fault → number_of fault ≢ MIME_NO_MEMORY
value_number value fault is = search rules

module _ (value : List ℕ) where
  -- A value that is read has no error.
  never_both : (media : MediaType) (error : FieldError) → number_of_error error ≢ MIME_NO_MEMORY → FieldReads value media
      → ¬ (HttpExplains value error)
  never_both media error some is = search (no_field_error, rules)

  -- A value that isn't read has one error.
  one_fault_of : (one two : FieldError) → number_of_error one ≢ MIME_NO_MEMORY → number_of_error two ≢ MIME_NO_MEMORY
      → HttpExplains value one → HttpExplains value two → two ≡ one
  one_fault_of one two h k why too = search (one_field_error, rules)

  -- A value is read, or has an error.
  value_or_error : ((media : MediaType) × FieldReads value media)
      ⊎ ((error : FieldError) × (number_of_error error ≢ MIME_NO_MEMORY) × HttpExplains value error)
  value_or_error = ⊎_elim
      (λ utf8. ⊎_elim (λ is. inl (is.0, (utf8, is.1, is.2)))
      (λ isnt. let one = one_http_fault value isnt in inr (Invalid one.0, value_number value one.0 one.1, (utf8, one.1)))
      (read_or_not value))
      (λ isnt. let up = valid_up_to value isnt in inr (NotUtf8 up.0, (λ same. omega (arith, same)), (isnt, up.1)))
      (utf8_or_not value)

  -- The reading of a value finds one media type or one error.
  reading_of_value : IsReading (FieldReads value) (HttpExplains value)
  reading_of_value = record {
    either = value_or_error;
    one_media = λ one two is too. one_printed_text value two one too.1 too.2 is.1 is.2;
    not_both = never_both;
    one_error = one_fault_of;
  }

-- `mime_content_type` has one outcome.
pub header_reads_to_one : HeaderReadsToOne
header_reads_to_one value old = one_in_room (one_of_reading (reading_of_value value)
    (λ media is. one_writing (texts_come_back _ media (printed_is_read value media is.1 is.2).0)))

-- ---- boundaries: bytes are one or aren't, and a media type has one or none

-- Bytes are a boundary or aren't.
is_boundary_or_not : (bytes : List ℕ) → IsBoundary bytes ⊎ ¬ (IsBoundary bytes)
is_boundary_or_not bytes = search rules

-- A media type has a boundary or none.
boundary_or_not : (media : MediaType) → ((boundary : List ℕ) × IsBoundaryOf media boundary) ⊎ ((other : List ℕ)
    → ¬ (IsBoundaryOf media other))
boundary_or_not media =
    let named = bytes_eq-Decides (type_of media) (codes "multipart") in
    ⊎_elim
    (λ multipart. ⊎_elim
    (λ found. ⊎_elim
    (λ is. inl (found.0, record { multipart = named.0 multipart; found = found.1; is = is }))
    (λ no. inr (λ other is. no (subst IsBoundary (same_Some other found.0 (sym is.found ∙ found.1)) is.is)))
    (is_boundary_or_not found.0))
    (λ none. inr (λ other is. none-some other (sym none ∙ is.found)))
    (some_or_none (option_map unescaped (first_value (codes "boundary") media.pairs))))
    (λ no. inr (λ other is. true≢false (sym (named.1 is.multipart) ∙ no)))
    (cases_Bool (bytes_eq (type_of media) (codes "multipart")))

-- Two outcomes of a boundary are the same unless memory runs out.
same_boundary : {old : List ℕ} {media : MediaType} {n m : ℕ} {held other : List ℕ × ℕ} → n ≢ MIME_NO_MEMORY
    → m ≢ MIME_NO_MEMORY → AnswersBoundary old media n held → AnswersBoundary old media m other → (m ≡ n) × (other ≡ held)
same_boundary h k boundary_has_no_memory two = absurd (h refl)
same_boundary h k one boundary_has_no_memory = absurd (k refl)
same_boundary {old = old} h k (boundary_is one has back) (boundary_is two too again) = search (same_Some, rules)
same_boundary h k (boundary_is one has back) (has_no_boundary none) = absurd (none one has)
same_boundary h k (has_no_boundary none) (boundary_is two has back) = absurd (none two has)
same_boundary h k (has_no_boundary none) (has_no_boundary too) = (refl, refl)

-- The boundary of a media type is written in one way.
one_of_boundary : (old : List ℕ) (media : MediaType) → HasOne (AnswersBoundary old media)
one_of_boundary old media = ⊎_elim
    (λ it. one_is (λ same. omega (arith, same)) (boundary_is it.0 it.1 (boundary_comes_back it.0 it.1.is)) (λ n x. same_boundary))
    (λ none. one_is (λ same. omega (arith, same)) (has_no_boundary none) (λ n x. same_boundary)) (boundary_or_not media)

-- `mime_boundary` has one outcome.
pub boundary_is_one : BoundaryIsOne
boundary_is_one value old = one_in_room (one_of_reading (reading_of_value value) (λ media is. one_of_boundary old media))

-- `mime_unescape` has one outcome.
pub unescapes_to_one : UnescapesToOne
unescapes_to_one value old = one_in_room one_success

-- ---- parameters: a name and a value are one or aren't

-- A name is a token or isn't.
token_or_not : (name : List ℕ) → IsToken name ⊎ ¬ (IsToken name)
token_or_not name = search rules

-- A name and a value are a parameter or aren't.
parameter_or_not : (name value : List ℕ) → CanBeParameter name value ⊎ ¬ (CanBeParameter name value)
parameter_or_not name value = ⊎_elim
    (λ name_utf8. ⊎_elim
    (λ value_utf8. ⊎_elim
    (λ named. ⊎_elim (λ safe. inl (record { name_utf8 = name_utf8; value_utf8 = value_utf8; named = named; safe = safe }))
    (λ no. inr (λ is. true≢false (sym is.safe ∙ no))) (cases_Bool (list_all is_quoted_byte value)))
    (λ no. inr (λ is. no is.named)) (token_or_not name))
    (λ no. inr (λ is. no is.value_utf8)) (utf8_or_not value))
    (λ no. inr (λ is. no is.name_utf8)) (utf8_or_not name)

-- A media type that is written with a parameter comes back.
comes_back : (text name value : List ℕ) (media : MediaType) → HttpReads text media → CanBeParameter name value
    → ComeBack ((set_parameter media name value).kept ∷ [])
comes_back text name value media reads is =
    let read = read_anew text media reads in
    let safe = kept_is_safe read.0 (with_pairs media media.pairs) read.1 in
    let made = with_pair_is_read read.0 (with_pairs media media.pairs) name (escaped value) read.1 safe is.named
    (content_of_escaped value is.safe) in
    set_comes_back (set_parameter media name value) (kept_is_read _ _ made)

-- Two outcomes of a parameter are the same unless memory runs out.
same_set : {name value old : List ℕ} {media : MediaType} {n m : ℕ} {held other : List ℕ × ℕ} → n ≢ MIME_NO_MEMORY
    → m ≢ MIME_NO_MEMORY → IsSet name value old media n held → IsSet name value old media m other → (m ≡ n) × (other ≡ held)
same_set h k one two = search rules

-- A parameter is written in one way.
one_set : (text name value old : List ℕ) (media : MediaType) → HttpReads text media → HasOne (IsSet name value old media)
one_set text name value old media reads = ⊎_elim
    (λ is. one_is (λ same. omega (arith, same)) (is_set is (comes_back text name value media reads is)) (λ n x. same_set))
    (λ isnt. one_is (λ same. omega (arith, same)) (isnt_parameter isnt) (λ n x. same_set)) (parameter_or_not name value)

-- `mime_set_parameter` has one outcome.
pub sets_to_one : SetsToOne
sets_to_one text name value old = one_in_room (one_of_reading (reading_of_value text) (λ media is. one_set text name value old media is.1))
