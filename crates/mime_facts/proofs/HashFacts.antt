-- What values feed a hasher, by computation; texts that a prefix-free input keeps from others, and an input that isn't prefix-free.
use Rattle.std.proofs.Common.{◌≡◌, ◌≢◌, ℕ, false, List, [], ◌∷◌, ◌++◌, None, refl, ap, codes}
use Rattle.std.proofs.lemmas.Bool.{false≢true}
use Rattle.std.specs.{Char.encode_utf8, Hash.HashWrites, List.concat}
use Rattle.mime.specs.{Bytes.is_token_byte, Grammar.no_list, Values.MediaType, Values.OwnedMedia, Values.Reads, Inner.HashInput.media_input}
use Rattle.mime.specs.{HashLaws.IsReadInUtf8, HashLaws.RespectsEquality, HashLaws.IsPrefixFree}
use Rattle.mime.proofs.{ValueLemmas.Hash.fed-read, ValueLemmas.KeptText.kept_is_read}
use Rattle.mime_facts.proofs.{ComparisonFacts.quoted_x, ComparisonFacts.plain_x, ComparisonFacts.plain_y, StandardFacts.media}
use Rattle.mime_facts.proofs.{StandardFacts.reads, ValueFacts.differ, ValueFacts.plain_value, ValueFacts.reads_capitals}
use Rattle.mime_facts.proofs.{ValueFacts.keeps_no_capitals}
use Rattle.std.specs.Hash as fed

-- The value of `a/bx`.
abbrev longer_value : MediaType
longer_value = media (codes "a/bx") 1 None [] (codes "a/bx")

-- `a/bx` is read as this value.
reads_longer : Reads (codes "a/bx") longer_value
unfolding is_token_byte
reads_longer = reads (codes "a") (codes "bx") no_list (refl, refl, tt)

-- What a value and a text after it feed, as a tuple does.
abbrev pair_fed : MediaType → List ℕ → List ℕ
pair_fed value text = concat (media_input value ++ fed.str text)

-- A value and a text feed what no other value and text feed, even if both write the same bytes in a row.
fed_with_text : (pair_fed longer_value (codes "c") ≢ pair_fed plain_value (codes "xc"))
    × (pair_fed plain_x (codes "") ≢ pair_fed plain_value (codes "px"))
    × (concat (media_input plain_x) ≢ concat (media_input plain_y)) × (concat (media_input quoted_x) ≡ concat (media_input plain_x))
unfolding fed.le_bytes
fed_with_text = (
  differ (pair_fed longer_value (codes "c")) (pair_fed plain_value (codes "xc")) refl,
  differ (pair_fed plain_x (codes "")) (pair_fed plain_value (codes "px")) refl,
  differ (concat (media_input plain_x)) (concat (media_input plain_y)) refl,
  refl,
)

-- ---- values that were read from valid UTF-8

-- The value of `A/B` was read from valid UTF-8.
read_plain : IsReadInUtf8 plain_value
unfolding encode_utf8
read_plain = (codes "A/B", (codes "A/B", (refl, refl)), reads_capitals)

-- The value of `a/bx` was read from valid UTF-8.
read_longer : IsReadInUtf8 longer_value
unfolding encode_utf8
read_longer = (codes "a/bx", (codes "a/bx", (refl, refl)), reads_longer)

-- A value that keeps a capital of its essence isn't read, and one with the byte 255 not from valid UTF-8.
not_read_in_utf8 :
    ¬ (IsReadInUtf8 (record plain_value { kept = codes "A/B" }))
    × ¬ (IsReadInUtf8 (record plain_value { pairs = (codes "p", 255 ∷ []) ∷ [] }))
not_read_in_utf8 = ((λ is. keeps_no_capitals (kept_is_read is.0 _ is.2)), λ is. false≢true (fed-read _ is).pairs.0.1)

-- ---- equal values

abbrev owned : MediaType → OwnedMedia
owned value = record { media = value; fixed = false }

-- Equal values have the same essence, but not the same kept text.
respects_equality : RespectsEquality (λ value. value.media.essence ∷ []) × ¬ (RespectsEquality (λ value. value.media.kept ∷ []))
respects_equality = (
  (λ first second same. ap (λ essence. essence ∷ []) same.0),
  λ law. differ (codes "a/b;p=\"x\"") (codes "a/b;p=x") refl (ap concat (law (owned quoted_x) (owned plain_x) (refl, refl))),
)

-- ---- prefix-free inputs

-- Neither of `a/b` and `a/bx` begins the other.
neither_begins : (input : OwnedMedia → HashWrites) → IsPrefixFree input → (more : List ℕ)
    → (concat (input (owned plain_value)) ++ more ≢ concat (input (owned longer_value)))
    × (concat (input (owned longer_value)) ++ more ≢ concat (input (owned plain_value)))
neither_begins input law more = (
  (λ is. differ (codes "a/b") (codes "a/bx") refl (law (owned plain_value) (owned longer_value) more read_plain read_longer is).0),
  λ is. differ (codes "a/bx") (codes "a/b") refl (law (owned longer_value) (owned plain_value) more read_longer read_plain is).0,
)

-- An essence without an end isn't prefix-free.
essence_without_end : ¬ (IsPrefixFree (λ value. value.media.essence ∷ []))
essence_without_end law = (neither_begins (λ value. value.media.essence ∷ []) law (codes "x")).0 refl
