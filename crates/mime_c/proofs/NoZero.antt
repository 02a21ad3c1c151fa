-- No text that is written has the byte 0, so the texts come back from their strings.
use Rattle.std.proofs.Common.{rules, ◌≡◌, ℕ, true, false, List, [], ◌∷◌, ◌++◌, refl, ap, ◌∙◌, arith}
use Rattle.std.specs.Prelude.{◌==◌}
use Rattle.std.specs.List.{list_all, onto_first, flat_map, AllByRecursion}
use Rattle.std.proofs.{lemmas.Bool.and_parts, lemmas.Bool.and_from, lemmas.Bool.Decides.nat_tests}
use Rattle.mime.specs.Bytes.{is_token_byte, is_quoted_byte}
use Rattle.mime.specs.Grammar.{IsContent, no_byte, text_byte, quoted_pair}
use Rattle.mime.specs.Values.{MediaType, Reads}
use Rattle.mime.specs.Faults.{IsViable}
use Rattle.mime.specs.HeaderLaws.{IsSafePair}
use Rattle.mime.specs.Laws.{without_parameters}
use Rattle.mime.specs.Cut.{CutItem, good, bad, Cut}
use Rattle.mime.specs.CutLaws.{IsItem}
use Rattle.mime.proofs.HandedOut.{is_other, list_all-wider, are_other-token, AreTokenBytes-from_token, accepted_is_viable, walk-from_viable}
use Rattle.mime.proofs.HandedOut.{essence_is_read, walked-safe, kept_is_safe, kept_is_read, cut_has_items}
use Rattle.mime_c.specs.Strings.{string_of, strings, texts_in, ComeBack, texts_of, item_texts}

-- A text doesn't have the byte 0.
abbrev pub HasNoZero : List ℕ → Type 0
HasNoZero text = list_all (is_other 0) text ≡ true

-- A text without the byte 0 comes back from its string.
texts_in-string : (text bytes : List ℕ) → HasNoZero text → texts_in (string_of text ++ bytes) ≡ text ∷ texts_in bytes
texts_in-string [] bytes none = refl
texts_in-string (b ∷ text) bytes none =
    let parts = and_parts (is_other 0 b) (list_all (is_other 0) text) none in
    let other : (b == 0) ≡ false = grind (arith, nat_tests, parts.0) in
    rw other (ap (onto_first b) (texts_in-string text bytes parts.1))

-- Texts without the byte 0 come back from their strings.
pub come_back : (texts : List (List ℕ)) → AllByRecursion HasNoZero texts → ComeBack texts
come_back [] none = refl
come_back (text ∷ texts) none = texts_in-string text (strings texts) none.0 ∙ ap (λ others. text ∷ others) (come_back texts none.1)

-- A header's byte isn't 0.
quoted_byte-other : (b : ℕ) → is_quoted_byte b ≡ true → is_other 0 b ≡ true
unfolding is_quoted_byte
quoted_byte-other b is = grind (arith, nat_tests)

-- No viable text has the byte 0.
no_zero-viable : (text : List ℕ) → IsViable text → HasNoZero text
no_zero-viable text viable =
    let walked = walk-from_viable text viable in
    list_all-wider is_quoted_byte (is_other 0) quoted_byte-other text (walked-safe _ walked.0 text walked.1)

-- No text that is read has the byte 0.
pub no_zero-read : (text : List ℕ) (media : MediaType) → Reads text media → HasNoZero text
no_zero-read text media reads = no_zero-viable text (accepted_is_viable text (media, reads))

-- No content of a quoted string has the byte 0.
no_zero-content : (content : List ℕ) → IsContent content → HasNoZero content
no_zero-content content no_byte = refl
no_zero-content content (text_byte b rest is others) =
    and_from _ _ (quoted_byte-other b (and_parts (is_quoted_byte b) _ is).0) (no_zero-content rest others)
no_zero-content content (quoted_pair b rest is others) = and_from _ _ (quoted_byte-other b is) (no_zero-content rest others)

-- The texts of parameters are their names and their values.
abbrev pub pair_texts : List (List ℕ × List ℕ) → List (List ℕ)
pair_texts pairs = flat_map (λ pair. pair.0 ∷ pair.1 ∷ []) pairs

-- No name and no value has the byte 0.
pub no_zero-pairs : (pairs : List (List ℕ × List ℕ)) (kept : List ℕ) → AllByRecursion IsSafePair pairs → HasNoZero kept
    → AllByRecursion HasNoZero (pair_texts pairs ++ kept ∷ [])
unfolding is_token_byte
no_zero-pairs [] kept are none = (none, tt)
no_zero-pairs ((name, value) ∷ pairs) kept (is, others) none =
    (are_other-token 0 refl name (AreTokenBytes-from_token name is.0), (no_zero-content value is.1, no_zero-pairs pairs kept others none))

-- The texts of a media type that was read come back.
pub texts_come_back : (text : List ℕ) (media : MediaType) → Reads text media → ComeBack (texts_of media)
texts_come_back text media reads =
    let kept = no_zero-read media.kept media (kept_is_read text media reads) in
    let essence = no_zero-read media.essence (without_parameters media) (essence_is_read text media reads) in
    come_back (texts_of media) (essence, no_zero-pairs media.pairs media.kept (kept_is_safe text media reads).pairs kept)

-- No text of an item has the byte 0.
no_zero-items : (items : List CutItem) → AllByRecursion IsItem items → AllByRecursion HasNoZero (item_texts items)
no_zero-items [] are = tt
no_zero-items (good piece media ∷ items) (reads, others) = search (no_zero-items items others, no_zero-read, kept_is_read, rules)
no_zero-items (bad piece ∷ items) (is, others) = (no_zero-viable piece is.0, no_zero-items items others)

-- The items of a list come back.
pub items_come_back : (text : List ℕ) (items : List CutItem) (rest : List ℕ) → Cut text items rest → ComeBack (item_texts items)
items_come_back text items rest cut = come_back (item_texts items) (no_zero-items items (cut_has_items text items rest cut).0)
