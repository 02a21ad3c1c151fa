-- What each answer says, whatever the text is: when memory may run out, what then holds, and that the texts come back.
use Rattle.std.proofs.Common.{rules, ◌≡◌, ◌≢◌, ℕ, ◌*◌, ◌≤◌, ◌⊎◌, inl, inr, List, [], ◌∷◌, length, refl, sym, ap, subst, arith, codes, None}
use Rattle.std.specs.{List.All, Str.IsUtf8}
use Rattle.std.proofs.lemmas.List.Elements.{All-contains, All-cons, All-nil}
use Rattle.mime.specs.Bytes.{is_token_byte}
use Rattle.mime.specs.Grammar.{no_list}
use Rattle.mime.specs.Values.{MediaType, Reads}
use Rattle.mime.specs.Faults.{Explains}
use Rattle.mime.specs.Cut.{CutItem, good, bad, Cut, whole}
use Rattle.mime.specs.declared.scan.fault.ParseError.TheVariants.{NoMemory}
use Rattle.mime.proofs.HandedOut.{rejected-from_walk, one_reading, cut_unique}
use Rattle.mime_http.specs.declared.value.FieldError.{FieldError}
use Rattle.mime_http.specs.declared.value.FieldError.TheVariants.{NotUtf8, Invalid}
use Rattle.mime_http.specs.declared.value.FieldError.TheVariants as field
use Rattle.mime_c.specs.Strings.{strings, ComeBack, texts_of, item_texts, overwritten}
use Rattle.mime_c.specs.Answers.{number_of_error, found_of_error, nothing_found, has_room, has_no_room, has_media, fails}
use Rattle.mime_c.specs.Answers.{TextExplains, are_written}
use Rattle.mime_c.specs.Answers.{ReadsTo, ListNeedsMemory, ListsTo, is_listed, has_no_memory, is_not_text, Compares, are_compared}
use Rattle.mime_c.specs.declared.MimeFound.{MimeFound}
use Rattle.mime_c.specs.declared.TheConstants.{MIME_OK, MIME_NO_MEMORY}
use Rattle.mime_c.proofs.AnswerFacts.{empty_needs_none}

-- ---- out of memory

-- If memory runs out for a text, it is a media type of more than 40 bytes, and nothing is found.
fails_for_memory : {text : List ℕ} (error : FieldError) → number_of_error error ≡ MIME_NO_MEMORY → TextExplains text error
    → (found_of_error error ≡ nothing_found) × IsUtf8 text × Explains text NoMemory
fails_for_memory (Invalid NoMemory) is why = (refl, why.0, why.1)
fails_for_memory (Invalid fault) is why = absurd (omega (arith, is))
fails_for_memory (NotUtf8 pos) is why = absurd (omega (arith, is))
fails_for_memory field.NoMemory is why = absurd why

-- If memory runs out, `mime_read` writes nothing.
reads_for_memory : {text old : List ℕ} {n : ℕ} {held : List ℕ × MimeFound} → n ≡ MIME_NO_MEMORY → ReadsTo text old n held
    → (held ≡ (old, nothing_found)) × IsUtf8 text × Explains text NoMemory
reads_for_memory {old = old} is (has_room _ _ room (fails error why)) = search (fails_for_memory, rules)
reads_for_memory is (has_room _ _ room (has_media media _ _ reads (are_written back))) = absurd (omega (arith, is))
reads_for_memory is (has_no_room short) = absurd (omega (arith, is))

-- If memory runs out, `mime_list` had room, and its text has an item that needs memory.
lists_for_memory : {text old : List ℕ} {n : ℕ} {held : List ℕ × ℕ} → n ≡ MIME_NO_MEMORY → ListsTo text old n held
    → (held.1 ≡ 0) × (2 * length text ≤ length old) × IsUtf8 text × ListNeedsMemory text
lists_for_memory is (has_room _ _ room (has_no_memory new utf8 needs)) = (refl, room, utf8, needs)
lists_for_memory is (has_room _ _ room (is_listed items rest utf8 cut back)) = absurd (omega (arith, is))
lists_for_memory is (has_room _ _ room (is_not_text isnt)) = absurd (omega (arith, is))
lists_for_memory is (has_no_room short) = absurd (omega (arith, is))

-- If memory runs out, `mime_equal` says 0, and one of its texts needs memory.
compares_for_memory : {one other : List ℕ} {n equal : ℕ} → n ≡ MIME_NO_MEMORY → Compares one other n equal
    → (equal ≡ 0) × (Explains one NoMemory ⊎ Explains other NoMemory)
compares_for_memory is (fails error why) = (refl, inl (fails_for_memory error is why).2)
compares_for_memory is (has_media media _ _ reads (fails error why)) = (refl, inr (fails_for_memory error is why).2)
compares_for_memory is (has_media media _ _ reads (has_media other _ _ too (are_compared equal tells))) = absurd (omega (arith, is))

-- Memory never runs out for the empty list.
empty_list_needs_none : (old : List ℕ) (held : List ℕ × ℕ) → ¬ (ListsTo [] old MIME_NO_MEMORY held)
empty_list_needs_none old held lists = empty_needs_none (lists_for_memory refl lists).3

-- The media type `*/*`.
star : MediaType
star = record { essence = codes "*/*"; slash = 1; plus = None; pairs = []; kept = codes "*/*" }

-- `*/*` is read as it.
star_is_read : Reads (codes "*/*") star
unfolding star is_token_byte
star_is_read = record {
  tree = record { top = codes "*"; sub = codes "*"; tail = no_list };
  well_formed = (refl, refl, tt);
  spelled = refl;
  valued = refl;
}

-- The kept text of an item.
abbrev kept_of : CutItem → List ℕ
kept_of (good piece media) = media.kept
kept_of (bad piece) = []

-- Memory never runs out for a list of `*/*`.
star_list_needs_none : (old : List ℕ) (held : List ℕ × ℕ) → ¬ (ListsTo (codes "*/*") old MIME_NO_MEMORY held)
unfolding star
star_list_needs_none old held lists =
    let needs = (lists_for_memory refl lists).3 in
    let IsShort : CutItem → Type 0 = λ item. length (kept_of item) ≤ 40 in
    let only = (cut_unique (codes "*/*") _ [] (whole (codes "*/*") star star_is_read) needs.0 needs.1 needs.4).0 in
    let all = subst (All IsShort) (sym only) (All-cons IsShort (good (codes "*/*") star) [] (omega arith) (All-nil IsShort)) in
    absurd (omega (arith, needs.6, All-contains IsShort needs.0 (good needs.2 needs.3) all needs.5))

-- Memory never runs out for `*/*`.
no_memory_for_star : (old : List ℕ) (held : List ℕ × MimeFound) → ¬ (ReadsTo (codes "*/*") old MIME_NO_MEMORY held)
unfolding star
no_memory_for_star old held reads =
    let needs = (reads_for_memory refl reads).2 in
    let same = one_reading (codes "*/*") needs.0 star needs.1 star_is_read in
    absurd (omega (arith, needs.2, ap (λ (it : MediaType). length it.kept) same))

-- Memory never runs out for what isn't a media type.
e_needs_none : (old : List ℕ) (held : List ℕ × MimeFound) → ¬ (ReadsTo (codes "e") old MIME_NO_MEMORY held)
unfolding is_token_byte
e_needs_none old held reads =
    let needs = (reads_for_memory refl reads).2 in rejected-from_walk (codes "e") _ refl refl (needs.0, needs.1)

module _ (isnt : ¬ (IsUtf8 (255 ∷ []))) where
  -- Memory never runs out for what isn't UTF-8.
  not_text_needs_none : (old : List ℕ) (held : List ℕ × MimeFound) → ¬ (ReadsTo (255 ∷ []) old MIME_NO_MEMORY held)
  not_text_needs_none old held reads = isnt (reads_for_memory refl reads).1

  -- Memory never runs out for a list that isn't UTF-8.
  not_text_list_needs_none : (old : List ℕ) (held : List ℕ × ℕ) → ¬ (ListsTo (255 ∷ []) old MIME_NO_MEMORY held)
  not_text_list_needs_none old held lists = isnt (lists_for_memory refl lists).2

-- ---- success

-- No error has the number 0.
no_failure_is_ok : (error : FieldError) → number_of_error error ≢ MIME_OK
no_failure_is_ok (Invalid NoMemory) is = omega (arith, is)
no_failure_is_ok (Invalid fault) is = omega (arith, is)
no_failure_is_ok (NotUtf8 pos) is = omega (arith, is)
no_failure_is_ok field.NoMemory is = omega (arith, is)

-- The strings of `mime_read` are those of the text's media type, and none has a 0.
reads_without_zero : {text old : List ℕ} {n : ℕ} {held : List ℕ × MimeFound} → n ≡ MIME_OK → ReadsTo text old n held
    → (media : MediaType) × Reads text media × ComeBack (texts_of media) × (held.0 ≡ overwritten (strings (texts_of media)) old)
reads_without_zero is (has_room _ _ room (has_media media _ _ reads (are_written back))) = (media, reads.1, back, refl)
reads_without_zero is (has_room _ _ room (fails error why)) = absurd (no_failure_is_ok error is)
reads_without_zero is (has_no_room short) = absurd (omega (arith, is))

-- The strings of `mime_list` are those of the text's items, and none has a 0.
lists_without_zero : {text old : List ℕ} {n : ℕ} {held : List ℕ × ℕ} → n ≡ MIME_OK → ListsTo text old n held
    → (items : List CutItem) × (rest : List ℕ) × Cut text items rest × ComeBack (item_texts items)
    × (held.0 ≡ overwritten (strings (item_texts items)) old)
lists_without_zero is (has_room _ _ room (is_listed items rest utf8 cut back)) = (items, rest, cut, back, refl)
lists_without_zero is (has_room _ _ room (has_no_memory new utf8 needs)) = absurd (omega (arith, is))
lists_without_zero is (has_room _ _ room (is_not_text isnt)) = absurd (omega (arith, is))
lists_without_zero is (has_no_room short) = absurd (omega (arith, is))
