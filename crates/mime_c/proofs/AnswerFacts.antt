-- What the trusted files say of some texts: each definition has an example and a counterexample.
use Rattle.std.proofs.Common.{rules, ◌≡◌, ◌≢◌, ℕ, true, List, [], ◌∷◌, ◌++◌, map, length, refl, sym, ap, ◌∙◌, arith, codes, Some, None}
use Rattle.std.specs.Str.{IsUtf8, IsValidUpTo}
use Rattle.std.proofs.{lemmas.Str.IsUtf8-nil, lemmas.List.take_all}
use Rattle.mime.specs.{Bytes.is_token_byte, Grammar.no_list, Values.MediaType, Values.Reads, Cut.good, Cut.bad, Cut.Cut, Cut.whole}
use Rattle.mime.specs.{declared.scan.fault.ParseError.TheVariants.MissingSlash, declared.scan.fault.ParseError.TheVariants.MissingSubtype}
use Rattle.mime.specs.{declared.scan.fault.ParseError.TheVariants.MissingEqual, declared.scan.fault.ParseError.TheVariants.MissingValue}
use Rattle.mime.specs.{declared.scan.fault.ParseError.TheVariants.MissingQuote, declared.scan.fault.ParseError.TheVariants.InvalidToken}
use Rattle.mime.specs.{declared.scan.fault.ParseError.TheVariants.NoMemory}
use Rattle.mime.proofs.HandedOut.{empty-cut, cut_unique}
use Rattle.mime_http.specs.declared.value.FieldError.TheVariants.{NotUtf8, Invalid}
use Rattle.mime_http.specs.declared.value.FieldError.TheVariants as field
use Rattle.mime_c.specs.{Strings.strings, Strings.ComeBack, Strings.texts_of, Strings.item_texts, Strings.overwritten, Answers.number_of}
use Rattle.mime_c.specs.{Answers.number_of_error, Answers.found_at, Answers.found_of, Answers.found_of_error, Answers.nothing_found}
use Rattle.mime_c.specs.{Answers.has_room, Answers.has_no_room, Answers.has_media, Answers.fails, Answers.TextExplains, Answers.are_written}
use Rattle.mime_c.specs.{Answers.ReadsTo, Answers.ListNeedsMemory, Answers.ListsTo, Answers.is_listed, Answers.Compares}
use Rattle.mime_c.specs.{Answers.are_compared}
use Rattle.mime_c.specs.{declared.MimeFound.MimeFound, declared.TheConstants.MIME_OK, declared.TheConstants.MIME_NO_MEMORY}
use Rattle.mime_c.specs.{declared.TheConstants.MIME_NOT_UTF8, declared.TheConstants.MIME_NO_ROOM}
use Rattle.mime_c.proofs.OneOutcome.{reads_to_one, lists_to_one, compares_as_one}

-- ---- strings

-- A media type with a suffix and an empty value.
svg : MediaType
svg = record {
  essence = codes "image/svg+xml";
  slash = 5;
  plus = Some 9;
  pairs = (codes "q", []) ∷ [];
  kept = codes "image/svg+xml;q=\"\"";
}

-- Its strings are its essence, a name, an empty value and the printed text, over the first of 36 bytes.
svg_written : overwritten (strings (texts_of svg)) (codes "-----------------------------------+")
    ≡ codes "image/svg+xml" ++ 0 ∷ 113 ∷ 0 ∷ 0 ∷ codes "image/svg+xml;q=\"\"" ++ 0 ∷ []
unfolding svg
svg_written = refl

-- Each field says what is found of it.
svg_found : found_of svg ≡ record { length = 36; params = 1; printed = 17; slash = 5; subtype_end = 9; pos = 0; byte = 0 }
unfolding svg
svg_found = refl

-- An invalid byte is found with its position, text that isn't UTF-8 with a position, and a missing quote with neither.
invalid_found : (found_of_error (Invalid (InvalidToken 7 40))
    ≡ record { length = 0; params = 0; printed = 0; slash = 0; subtype_end = 0; pos = 7; byte = 40 })
    × (found_of_error (NotUtf8 3) ≡ found_at 3 0) × (found_of_error (Invalid MissingQuote) ≡ nothing_found)
invalid_found = (refl, refl, refl)

-- The items of a list are written with their marks.
items_written : strings (item_texts (good (codes "A/b") (record svg { kept = codes "a/b" }) ∷ bad (codes "e") ∷ []))
    ≡ codes "+a/b" ++ 0 ∷ codes "-e" ++ 0 ∷ []
items_written = refl

-- Texts come back, an empty text too.
which_come_back : ComeBack (codes "a/b" ∷ [] ∷ [])
which_come_back = refl

-- A text with a 0 doesn't come back.
not_with_zero : ¬ (ComeBack ((1 ∷ 0 ∷ 2 ∷ []) ∷ []))
not_with_zero back = absurd (omega (arith, ap length back))

-- Each fault and each error has the number of include/mime.h.
numbers : (map number_of (MissingSlash ∷ MissingSubtype ∷ MissingEqual ∷ MissingValue ∷ MissingQuote ∷ InvalidToken 7 40
    ∷ NoMemory ∷ []) ≡ 1 ∷ 2 ∷ 3 ∷ 4 ∷ 5 ∷ 6 ∷ 7 ∷ [])
    × (map number_of_error (NotUtf8 3 ∷ Invalid MissingSlash ∷ field.NoMemory ∷ []) ≡ 8 ∷ 1 ∷ 7 ∷ [])
numbers = (refl, refl)

-- ---- answers

-- The media type `a/b`.
ab : MediaType
ab = record { essence = codes "a/b"; slash = 1; plus = None; pairs = []; kept = codes "a/b" }

-- `A/B` is read as it.
reads_ab : Reads (codes "A/B") ab
unfolding ab is_token_byte
reads_ab = record {
  tree = record { top = codes "A"; sub = codes "B"; tail = no_list };
  well_formed = (refl, refl, tt);
  spelled = refl;
  valued = refl;
}

-- `A/B` is cut into one item.
whole_ab : Cut (codes "A/B") (good (codes "A/B") ab ∷ []) []
whole_ab = whole (codes "A/B") ab reads_ab

-- Seven bytes aren't enough for a text of three.
ab_no_room : ReadsTo (codes "A/B") (codes "-------") MIME_NO_ROOM (codes "-------", nothing_found)
ab_no_room = has_no_room (omega arith)

module _ (utf8 : IsUtf8 (codes "A/B")) where
  -- Eight bytes are enough.
  ab_read : ReadsTo (codes "A/B") (codes "--------") MIME_OK
      (codes "a/b" ++ 0 ∷ codes "a/b" ++ 0 ∷ [], record nothing_found { length = 8; printed = 4; slash = 1; subtype_end = 3 })
  unfolding ab
  ab_read = has_room _ _ (omega arith) (has_media ab _ _ (utf8, reads_ab) (are_written refl))

  -- Nothing but MIME_OK is answered for eight bytes.
  ab_not_else : (answer : ℕ) (held : List ℕ × MimeFound) → answer ≢ MIME_NO_MEMORY → answer ≢ MIME_OK
      → ¬ (ReadsTo (codes "A/B") (codes "--------") answer held)
  ab_not_else answer held some other answers =
      let only = (reads_to_one (codes "A/B") (codes "--------")).4 in
      other ((only answer held some answers).0 ∙ sym (only MIME_OK _ (λ is. omega (arith, is)) ab_read).0)

  -- `A/B` is listed as one item.
  ab_listed : ListsTo (codes "A/B") (codes "------") MIME_OK (codes "+a/b" ++ 0 ∷ codes "-", 5)
  unfolding ab
  ab_listed = has_room _ _ (omega arith) (is_listed (good (codes "A/B") ab ∷ []) [] utf8 whole_ab refl)

  -- No other number of bytes is listed.
  ab_not_listed_else : (answer : ℕ) (new : List ℕ) (size : ℕ) → answer ≢ MIME_NO_MEMORY → size ≢ 5
      → ¬ (ListsTo (codes "A/B") (codes "------") answer (new, size))
  ab_not_listed_else answer new size some other answers =
      let only = (lists_to_one (codes "A/B") (codes "------")).4 in
      other (ap (λ it. it.1) ((only answer (new, size) some answers).1 ∙ sym (only MIME_OK _ (λ is. omega (arith, is)) ab_listed).1))

  -- `A/B` equals itself.
  same_ab : Compares (codes "A/B") (codes "A/B") MIME_OK 1
  same_ab = has_media ab _ _ (utf8, reads_ab) (has_media ab _ _ (utf8, reads_ab) (are_compared true ((λ is. (refl, refl)), (λ is. refl))))

  -- `A/B` doesn't differ from itself.
  not_different : ¬ (Compares (codes "A/B") (codes "A/B") MIME_OK 0)
  not_different different =
      let only = (compares_as_one (codes "A/B") (codes "A/B")).4 MIME_OK in
      absurd (omega (arith, (only 0 (λ is. omega (arith, is)) different).1, (only 1 (λ is. omega (arith, is)) same_ab).1))

-- A text of 41 bytes.
long : List ℕ
long = codes "application/x-forty-one-bytes-in-all-here"

-- The media type of 41 bytes.
long_value : MediaType
long_value = record { essence = long; slash = 11; plus = None; pairs = []; kept = long }

-- The text of 41 bytes is read as it.
reads_long : Reads long long_value
unfolding long long_value is_token_byte
reads_long = record {
  tree = record { top = codes "application"; sub = codes "x-forty-one-bytes-in-all-here"; tail = no_list };
  well_formed = (refl, refl, tt);
  spelled = refl;
  valued = refl;
}

-- The text of 41 bytes needs memory.
long_needs : ListNeedsMemory long
unfolding long long_value
long_needs = (good long long_value ∷ [], [], long, long_value, whole long long_value reads_long, (0, omega arith, refl), omega arith)

-- The empty text needs no memory.
pub empty_needs_none : ¬ (ListNeedsMemory [])
empty_needs_none (items, rest, piece, media, cut, has, more) = search (cut_unique, empty-cut, rules)

-- The byte 255 is no text by itself.
module _ (isnt : ¬ (IsUtf8 (255 ∷ []))) where
  -- No byte of a text that begins with the byte 255 is valid UTF-8.
  none_valid : IsValidUpTo (255 ∷ []) 0
  none_valid = search (IsUtf8-nil, take_all, rules)

  -- Such a text isn't read.
  not_read : ReadsTo (255 ∷ []) (codes "----") MIME_NOT_UTF8 (codes "----", nothing_found)
  not_read = has_room _ _ (omega arith) (fails (NotUtf8 0) (isnt, none_valid))

  -- Such a text isn't compared, as the first or as the second.
  not_compared : IsUtf8 (codes "A/B") → Compares (255 ∷ []) (codes "A/B") MIME_NOT_UTF8 0
      × Compares (codes "A/B") (255 ∷ []) MIME_NOT_UTF8 0
  not_compared utf8 =
      let why : TextExplains (255 ∷ []) (NotUtf8 0) = (isnt, none_valid) in
      (fails (NotUtf8 0) why, has_media ab _ _ (utf8, reads_ab) (fails (NotUtf8 0) why))
