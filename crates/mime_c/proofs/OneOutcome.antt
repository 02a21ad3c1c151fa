-- Each call has one outcome, unless memory runs out: what all calls share, and the calls for texts.
use Rattle.std.proofs.Common.{◌≡◌, ◌≢◌, ℕ, ◌⊎◌, inl, inr, zero, suc, ◌<◌, ◌≤◌, List, length, take, refl, sym, ap, ◌∙◌, subst, arith, ⊎_elim}
use Rattle.std.proofs.Common.{rules}
use Rattle.std.specs.Prelude.{if◌then◌else◌}
use Rattle.std.specs.{Str.IsUtf8, Str.IsValidUpTo, Ordering.eq_by_cmp}
use Rattle.std.proofs.{lemmas.Bool.cases_lt, lemmas.Str.IsUtf8-nil, lemmas.Str.utf8_valid_len-IsValidUpTo, lemmas.List.take_all}
use Rattle.mime.specs.Values.{MediaType, Reads}
use Rattle.mime.specs.Comparison.{media_cmp}
use Rattle.mime.specs.Faults.{IsFault, Explains}
use Rattle.mime.specs.declared.scan.fault.ParseError.{ParseError}
use Rattle.mime.proofs.HandedOut.{one_fault, rejected-from_fault, Explains-from_fault, one_reading, eq_by_cmp-tells, eq_by_cmp-same}
use Rattle.mime.proofs.HandedOut.{accepted_or_rejected, has_cut, cut_unique}
use Rattle.mime_http.specs.declared.value.FieldError.{FieldError}
use Rattle.mime_http.specs.declared.value.FieldError.TheVariants.{NotUtf8, Invalid, NoMemory}
use Rattle.mime_http.proofs.HandedOut.{utf8_or_not}
use Rattle.mime_c.specs.Strings.{ComeBack, texts_of}
use Rattle.mime_c.specs.Answers.{number_of, number_of_error, InRoom, has_room, has_no_room, Succeeds, succeeds, Of, has_media}
use Rattle.mime_c.specs.Answers.{fails, TextExplains}
use Rattle.mime_c.specs.Answers.{AreWritten, are_written, AreListed, is_listed, is_not_text, AreCompared, are_compared}
use Rattle.mime_c.specs.Laws.{HasOne, ReadsToOne, ListsToOne, ComparesAsOne}
use Rattle.mime_c.specs.declared.MimeFound.{MimeFound}
use Rattle.mime_c.specs.declared.TheConstants.{MIME_OK, MIME_NO_MEMORY}
use Rattle.mime_c.proofs.NoZero.{texts_come_back, items_come_back}

-- ---- what all calls share

-- An outcome is the one if any other is the same.
pub one_is : {Held : Type 0} {Is : ℕ → Held → Type 0} {n : ℕ} {held : Held} → n ≢ MIME_NO_MEMORY → Is n held
    → ((m : ℕ) (other : Held) → n ≢ MIME_NO_MEMORY → m ≢ MIME_NO_MEMORY → Is n held → Is m other
    → (m ≡ n) × (other ≡ held)) → HasOne Is
one_is {n = n} {held = held} some is same = (n, held, some, is, λ m other too has. same m other some too is has)

-- A call that succeeds with what it has to hold has one outcome.
pub one_success : {Held : Type 0} {wanted : Held} → HasOne (Succeeds wanted)
one_success = (_, _, (λ same. omega (arith, same)), succeeds, λ n held some is. search rules)

-- A call has one outcome in each buffer if it has one in those that are long enough.
pub one_in_room : {Held : Type 0} {least : ℕ} {old : List ℕ} {untouched : Held} {Is : ℕ → Held → Type 0} → HasOne Is
    → HasOne (InRoom least old untouched Is)
one_in_room {least = least} {old = old} one = ⊎_elim
    (λ short. (_, _, (λ same. omega (arith, same)), has_no_room short, λ n held some is. search rules))
    (λ room. (_, _, one.2, has_room _ _ room one.3, λ n held some is. search rules)) (cases_lt (length old) least)

-- A reading finds one media type, or one reason why there is none, unless memory runs out.
pub record IsReading (IsRead : MediaType → Type 0) (Explained : FieldError → Type 0) : Type 0 where
  pub either : ((media : MediaType) × IsRead media)
      ⊎ ((error : FieldError) × (number_of_error error ≢ MIME_NO_MEMORY) × Explained error)
  pub one_media : (one two : MediaType) → IsRead one → IsRead two → two ≡ one
  pub not_both : (media : MediaType) (error : FieldError) → number_of_error error ≢ MIME_NO_MEMORY → IsRead media
      → ¬ (Explained error)
  pub one_error : (one two : FieldError) → number_of_error one ≢ MIME_NO_MEMORY → number_of_error two ≢ MIME_NO_MEMORY
      → Explained one → Explained two → two ≡ one

-- A call has one outcome if it reads a media type first and has one outcome for each.
pub one_of_reading : {Held : Type 0} {IsRead : MediaType → Type 0} {Explained : FieldError → Type 0} {failed : MimeFound → Held}
    {Is : MediaType → ℕ → Held → Type 0} → IsReading IsRead Explained
    → ((media : MediaType) → IsRead media → HasOne (Is media)) → HasOne (Of IsRead Explained failed Is)
one_of_reading reading one = ⊎_elim
    (λ it. let has = one it.0 it.1 in (_, _, has.2, has_media it.0 _ _ it.1 has.3, λ n held some is. search rules))
    (λ it. (_, _, it.1, fails it.0 it.2, λ n held some is. search rules)) reading.either

-- The strings of a media type that come back are written in one way.
pub one_writing : {old : List ℕ} {media : MediaType} → ComeBack (texts_of media) → HasOne (AreWritten old media)
one_writing back = (_, _, (λ same. omega (arith, same)), are_written back, λ n held some is. search rules)

-- ---- the reading of a text

-- A text has a longest beginning in UTF-8, up to any position.
longest_within : (text : List ℕ) (n : ℕ)
    → (k : ℕ) × IsUtf8 (take k text) × (k ≤ n) × ((m : ℕ) → k < m → m ≤ n → ¬ (IsUtf8 (take m text)))
longest_within text zero = (0, IsUtf8-nil, omega arith, λ m above within utf8. absurd (omega (arith, above, within)))
longest_within text (suc n) = ⊎_elim
    (λ is. (suc n, is, omega arith, λ m above within utf8. absurd (omega (arith, above, within))))
    (λ isnt.
    let before = longest_within text n in (
      before.0,
      before.1,
      omega (arith, before.2),
      λ m above within utf8. ⊎_elim
          (λ low. before.3 m above (omega (arith, low)) utf8)
          (λ high. let same : m ≡ suc n = omega (arith, high, within) in isnt (subst (λ k. IsUtf8 (take k text)) same utf8))
          (cases_lt m (suc n)),
    ))
    (utf8_or_not (take (suc n) text))

-- A text that isn't UTF-8 is valid up to some position.
pub valid_up_to : (text : List ℕ) → ¬ (IsUtf8 text) → (pos : ℕ) × IsValidUpTo text pos
valid_up_to text isnt =
    let found = longest_within text (length text) in
    let short : found.0 < length text = ⊎_elim (λ less. less)
    (λ whole. absurd (isnt (subst IsUtf8 (take_all found.0 text whole) found.1))) (cases_lt found.0 (length text)) in (
      found.0,
      record {
        short = short;
        front = found.1;
        longest = λ m above utf8. ⊎_elim
            (λ within. found.3 m above (omega (arith, within)) utf8)
            (λ past. isnt (subst IsUtf8 (take_all m text past) utf8))
            (cases_lt m (length text));
      },
    )

-- What explains an answer other than that memory ran out is a fault.
is_fault : (text : List ℕ) (fault : ParseError) → Explains text fault → number_of fault ≢ MIME_NO_MEMORY → IsFault text fault
is_fault text fault why some = search rules

-- A fault's answer isn't that memory ran out.
its_number : (text : List ℕ) (fault : ParseError) → IsFault text fault → number_of fault ≢ MIME_NO_MEMORY
its_number text fault is = search rules

module _ (text : List ℕ) where
  -- A text that is read has no error.
  not_both : (media : MediaType) (error : FieldError) → number_of_error error ≢ MIME_NO_MEMORY → IsUtf8 text × Reads text media
      → ¬ (TextExplains text error)
  not_both media (NotUtf8 pos) some is why = why.0 is.0
  not_both media (Invalid fault) some is why = rejected-from_fault text fault (is_fault text fault why.1 some) (media, is.1)
  not_both media NoMemory some is why = why

  -- A text that isn't read has one error.
  one_error : (one two : FieldError) → number_of_error one ≢ MIME_NO_MEMORY → number_of_error two ≢ MIME_NO_MEMORY
      → TextExplains text one → TextExplains text two → two ≡ one
  one_error NoMemory two h k why too = absurd why
  one_error one NoMemory h k why too = absurd too
  one_error (NotUtf8 pos) (NotUtf8 other) h k why too =
      ap NotUtf8 (sym (utf8_valid_len-IsValidUpTo text other too.1) ∙ utf8_valid_len-IsValidUpTo text pos why.1)
  one_error (NotUtf8 pos) (Invalid fault) h k why too = absurd (why.0 too.0)
  one_error (Invalid fault) (NotUtf8 pos) h k why too = absurd (too.0 why.0)
  one_error (Invalid fault) (Invalid other) h k why too =
      let is = is_fault text fault why.1 h in
      let only = (one_fault text (rejected-from_fault text fault is)).2 in
      ap Invalid (only other (is_fault text other too.1 k) ∙ sym (only fault is))

  -- A text is read, or has an error.
  read_or_failed : ((media : MediaType) × (IsUtf8 text × Reads text media))
      ⊎ ((error : FieldError) × (number_of_error error ≢ MIME_NO_MEMORY) × TextExplains text error)
  read_or_failed = ⊎_elim
      (λ utf8. ⊎_elim (λ accepted. inl (accepted.0, (utf8, accepted.1)))
      (λ rejected. let only = one_fault text rejected in
      inr (Invalid only.0, its_number text only.0 only.1, (utf8, Explains-from_fault text only.0 only.1))) (accepted_or_rejected text))
      (λ isnt. let up = valid_up_to text isnt in inr (NotUtf8 up.0, (λ same. omega (arith, same)), (isnt, up.1))) (utf8_or_not text)

  -- The reading of a text finds one media type or one error.
  reading_of_text : IsReading (λ media. IsUtf8 text × Reads text media) (TextExplains text)
  reading_of_text = record {
    either = read_or_failed;
    one_media = λ one two is too. one_reading text two one too.1 is.1;
    not_both = not_both;
    one_error = one_error;
  }

-- ---- the calls for texts

-- `mime_read` has one outcome.
pub reads_to_one : ReadsToOne
reads_to_one text old = one_in_room (one_of_reading (reading_of_text text) (λ media is. one_writing (texts_come_back text media is.1)))

module _ {text old : List ℕ} where
  -- Two outcomes of a list are the same.
  one_listing : {n m : ℕ} {held other : List ℕ × ℕ} → n ≢ MIME_NO_MEMORY → m ≢ MIME_NO_MEMORY → AreListed text old n held
      → AreListed text old m other → (m ≡ n) × (other ≡ held)
  one_listing h k is is_too = search (rules, cut_unique)

-- `mime_list` has one outcome.
pub lists_to_one : ListsToOne
lists_to_one text old = one_in_room (⊎_elim (λ utf8.
    let has = has_cut text in
    one_is (λ same. omega (arith, same))
    (is_listed has.items has.rest utf8 has.cut (items_come_back text has.items has.rest has.cut)) (λ n x. one_listing))
    (λ isnt. one_is (λ same. omega (arith, same)) (is_not_text isnt) (λ n x. one_listing)) (utf8_or_not text))

-- Two media types are compared in one way.
one_comparison : (first second : MediaType) → HasOne (AreCompared first second)
one_comparison first second =
    (_, _, (λ same. omega (arith, same)), are_compared (eq_by_cmp media_cmp first second) (eq_by_cmp-tells first second), only)
  where
    only : (n equal : ℕ) → n ≢ MIME_NO_MEMORY → AreCompared first second n equal
        → (n ≡ MIME_OK) × (equal ≡ (if eq_by_cmp media_cmp first second then 1 else 0))
    only n equal some (are_compared are too) = (refl, ap (λ yes. if yes then 1 else 0) (eq_by_cmp-same first second are too))

-- `mime_equal` has one outcome.
pub compares_as_one : ComparesAsOne
compares_as_one one other = search (one_of_reading, reading_of_text, one_comparison, rules)
