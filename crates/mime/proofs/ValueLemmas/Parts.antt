-- The parts of a value that was read: its plus, where its essence may be cut, what is lowercase, and how many pairs it has.
use Rattle.std.proofs.Common.{◌≡◌, ◌≢◌, ℕ, Bool, suc, ◌+◌, ◌-◌, ◌<◌, List, map, [], ◌∷◌, ◌++◌, length, drop, Option, Some, None, refl, sym}
use Rattle.std.proofs.Common.{ap, ◌∙◌, subst, arith, ⊎_elim, zero, ◌≤◌, true, lit<, rules}
use Rattle.std.specs.Prelude.{slice_get, MatchOption, if◌then◌else◌, ◌==◌, unwrap_or, IsUtf8, codes}
use Rattle.std.specs.{Option.option_or, List.AllByRecursion, Str.IsCharBoundary, Str.bytes_eq}
use Rattle.std.proofs.lemmas.Bool.{cond_both, cases_lt, eqb-true, eqb-false}
use Rattle.std.proofs.lemmas.Option.{same_Some, none-some, slice_get_within, get_or_from_slice_get, MatchOption-at_some}
use Rattle.std.proofs.lemmas.Str.{IsCharBoundary-end, IsCharBoundary-before_ascii}
use Rattle.mime.specs.Bytes.{slash_byte, plus_byte, equals_byte}
use Rattle.mime.specs.Values.{lowered, last_plus, MediaType, Reads}
use Rattle.mime.specs.Laws.{HasNoPlusFrom, PlusIsLast}
use Rattle.mime.specs.Inner.Pairs.{PairCut, cut_of, cut_after_equals, without_spaces, pairs_within}
use Rattle.mime.specs.Items.{items_of, IsLowItem, IsLowIf, IsFirstAccepted}
use Rattle.mime.specs.Inner.KeptText.{lowered_pair, AreLowPairs, media_of, IsKept}
use Rattle.mime.specs.Comparison.{Same}
use Rattle.mime.specs.declared.scan.Positions.{Positions}
use Rattle.mime.proofs.BytesLemmas.{slice_get-after, slice_get-prefix, boundary_after}
use Rattle.mime.proofs.LowercaseLemmas.{lowered-lowered, lowered-append, lowered_value-lowered, low_pair-parts, length-tail_lowered}
use Rattle.mime.proofs.LowercaseLemmas.{pairs_of_tail-lowered}
use Rattle.mime.proofs.ValueLemmas.KeptText.{media_of-kept, reads-from_kept}
use Rattle.mime.proofs.ValueLemmas.Pairs.{pairs_within-first, cut_of-part, cut_of-name}
use Rattle.mime.proofs.GrammarLemmas.Readings.{one_reading}
use Rattle.mime_search.proofs.IgnoringCase.{length-lowered, lowered-drop}
use Rattle.mime_search.specs.Rests.{before_byte, after_byte}

-- the last plus of a text from a position on, if there is one
abbrev IsLastPlus : List ℕ → ℕ → ℕ → Option ℕ → Type 0
IsLastPlus text below from found =
    MatchOption found (HasNoPlusFrom text from)
    (λ position. (below < position) × (slice_get text position ≡ Some plus_byte) × HasNoPlusFrom text (position + 1))

-- The computed position is the last, and there is none only if no plus is there.
last_plus-is_last : (text : List ℕ) (below from : ℕ) (bytes : List ℕ) → below < from
    → ((i : ℕ) → slice_get text (from + i) ≡ slice_get bytes i) → IsLastPlus text below from (last_plus from bytes)
last_plus-is_last text below from [] above view =
    λ position after there. none-some plus_byte (sym (view (position - from)) ∙ ap (slice_get text) (omega (arith, after)) ∙ there)
last_plus-is_last text below from (b ∷ bytes) above view =
    with_rest (last_plus (from + 1) bytes)
    (last_plus-is_last text below (from + 1) bytes (omega (arith, above)) (λ i. ap (slice_get text) (omega arith) ∙ view (suc i)))
  where
    here : slice_get text from ≡ Some b
    here = ap (slice_get text) (omega arith) ∙ view 0

    with_rest : (rest : Option ℕ) → IsLastPlus text below (from + 1) rest
        → IsLastPlus text below from (option_or rest (if b == plus_byte then Some from else None))
    with_rest (Some position) found = found
    with_rest None none =
        cond_both (b == plus_byte) (Some from) None (IsLastPlus text below from)
        (λ passes. (above, here ∙ ap Some (eqb-true b plus_byte passes), none))
        (λ fails position after there. ⊎_elim
        (λ at. eqb-false b plus_byte fails (same_Some b plus_byte (sym here ∙ ap (slice_get text) (omega (arith, at, after)) ∙ there)))
        (λ beyond. none position beyond there)
        (cases_lt position (from + 1)))

-- The plus of a value is the last one.
pub plus_is_last : PlusIsLast
plus_is_last text value reads =
    let top = lowered reads.tree.top in
    let sub = lowered reads.tree.sub in
    let slash = length reads.tree.top in
    let view : (i : ℕ) → slice_get (top ++ (slash_byte ∷ sub)) (slash + 2 + i) ≡ slice_get (drop 1 sub) i =
    λ i. slice_get-after top (slash_byte ∷ sub) (suc (suc i)) _ (omega (arith, length-lowered reads.tree.top)) ∙ search rules in
    subst (λ (v : MediaType). IsLastPlus v.essence (v.slash + 1) (v.slash + 2) v.plus) reads.valued
    (last_plus-is_last (top ++ (slash_byte ∷ sub)) (slash + 1) (slash + 2) (drop 1 sub) (omega arith) view)

-- ---- where the essence may be cut

-- The slash lies in the essence.
pub slash_in : (text essence : List ℕ) (value : MediaType) → Reads text value → essence ≡ value.essence
    → slice_get essence value.slash ≡ Some slash_byte
slash_in text essence value reads is = search (slice_get-prefix, length-lowered, rules)

-- the plus lies in the essence, after the subtype's first byte
pub record PlusIn (essence : List ℕ) (slash plus : ℕ) : Type 0 where
  pub above : slash + 1 < plus
  pub there : slice_get essence plus ≡ Some plus_byte

-- The plus of a value that was read lies in its essence.
pub plus_in : (text essence : List ℕ) (value : MediaType) (plus : ℕ) → Reads text value → essence ≡ value.essence
    → value.plus ≡ Some plus → PlusIn essence value.slash plus
plus_in text essence value plus reads is found =
    let last = MatchOption-at_some (HasNoPlusFrom value.essence (value.slash + 2)) _ plus found (plus_is_last text value reads) in
    record { above = last.0; there = rw is (last.1) }

-- The subtype ends before the plus or at the essence's end, at a character after its start.
pub subtype_end : (text essence : List ℕ) (value : MediaType) (plus : Option ℕ) → Reads text value → essence ≡ value.essence
    → value.plus ≡ plus → (value.slash + 1 ≤ unwrap_or plus (length essence))
    × IsCharBoundary essence (unwrap_or plus (length essence))
subtype_end text essence value None reads is found =
    (omega (arith, slice_get_within essence value.slash slash_byte (slash_in text essence value reads is)), IsCharBoundary-end essence)
subtype_end text essence value (Some plus) reads is found =
    let at = plus_in text essence value plus reads is found in (
      omega (arith, at.above),
      IsCharBoundary-before_ascii essence plus (slice_get_within essence plus plus_byte at.there)
          (omega (arith, get_or_from_slice_get essence plus plus_byte 0 at.there)),
    )

-- The suffix begins after the plus, at a character within the essence.
pub suffix_start : (text essence : List ℕ) (value : MediaType) (plus : ℕ) → Reads text value → essence ≡ value.essence
    → IsUtf8 essence → value.plus ≡ Some plus → (plus < length essence) × IsCharBoundary essence (plus + 1)
suffix_start text essence value plus reads is utf8 found =
    let at = plus_in text essence value plus reads is found in
    (slice_get_within essence plus plus_byte at.there, boundary_after essence plus plus_byte utf8 at.there (lit< tt))

-- ---- what is in lowercase

-- In a text of lowercase letters, the text after a position has lowercase letters.
pub low_drop : (n : ℕ) (text : List ℕ) → lowered text ≡ text → lowered (drop n text) ≡ drop n text
low_drop n text low = lowered-drop n text ∙ ap (drop n) low

-- The essence of a value that was read.
pub read-low_essence : (text : List ℕ) (value : MediaType) → Reads text value → lowered value.essence ≡ value.essence
read-low_essence text value reads = search (lowered-lowered, lowered-append, rules)

-- Lowercased pairs are low.
low_pairs : (pairs : List (List ℕ × List ℕ)) → AreLowPairs (map lowered_pair pairs)
low_pairs [] = tt
low_pairs ((name, value) ∷ pairs) = (cc (lowered-lowered name, lowered_value-lowered name value), low_pairs pairs)

-- The pairs of a value that was read are low.
pub read-low_pairs : (text : List ℕ) (value : MediaType) → Reads text value → AreLowPairs value.pairs
read-low_pairs text value reads =
    subst (λ (v : MediaType). AreLowPairs v.pairs) reads.valued (rw (pairs_of_tail-lowered reads.tree.tail) (low_pairs _))

-- ---- the items of pairs

-- The items of low pairs are in lowercase where their flags are set.
pub items_of-low : (pairs : List (List ℕ × List ℕ)) → AreLowPairs pairs → AllByRecursion IsLowItem (items_of pairs)
items_of-low [] low = tt
items_of-low ((name, value) ∷ pairs) (low, others) =
    let parts = low_pair-parts name value low in
    ((λ _. parts.0, λ is. parts.1 (subst (λ n. bytes_eq n (codes "charset") ≡ true) (sym parts.0) is)), items_of-low pairs others)

-- The first value of a list is what is found, if its name is accepted; and it is low.
pub first_value-found : (Accepts : List ℕ → Bool → Type 0) (count : ℕ) (list name back value : List ℕ) (flag : Bool)
    → count ≢ 0 → AreLowPairs (pairs_within count list) → name ≡ before_byte equals_byte (without_spaces list)
    → back ≡ after_byte equals_byte (without_spaces list) → Accepts name true
    → value ≡ (cut_after_equals (length list) name back).value → flag ≡ bytes_eq name (codes "charset")
    → IsFirstAccepted Accepts (items_of (pairs_within count list)) (Some (value, flag)) × IsLowIf flag value
first_value-found Accepts count list name back value flag some low name_is back_is accepted value_is flag_is =
    let cut = cut_of list in
    let named = cut_of-name list name name_is in
    let valued = cut_of-part (λ (p : PairCut). p.value) list name back (length list) value refl name_is back_is value_is in
    let flagged : flag ≡ bytes_eq cut.name (codes "charset") = flag_is ∙ ap (λ n. bytes_eq n (codes "charset")) named in
    let items = items_of-low ((cut.name, cut.value) ∷ pairs_within (count - 1) cut.rest)
    (subst AreLowPairs (pairs_within-first count list some) low) in (
      rw (pairs_within-first count list some)
          (λ _. cc (valued, flagged), λ other. absurd (other (subst (λ n. Accepts n true) named accepted))),
      rw (valued, flagged) items.0.1,
    )

-- As many pairs are cut from a list as the count says.
pub length-pairs_within : (count : ℕ) (list : List ℕ) → length (pairs_within count list) ≡ count
length-pairs_within zero list = refl
length-pairs_within (suc count) list = ap suc (length-pairs_within count (cut_of list).rest)

-- The count is that of the pairs.
pub kept-count : (text : List ℕ) (positions : Positions) → IsKept text positions
    → positions.pair_count ≡ length (media_of text positions).pairs
kept-count text positions is_kept =
    sym (length-tail_lowered is_kept.has.tree.tail ∙ ap (λ p. p.pair_count) is_kept.has.same_positions)
    ∙ ap (λ (value : MediaType). length value.pairs) (media_of-kept text positions is_kept)

-- Values that were read from one text are equal.
pub same_from_text : (text other : List ℕ) (x y : MediaType) → Reads text x → Reads other y → text ≡ other → Same x y
same_from_text text other x y reads also is =
    let one : x ≡ y = one_reading other x y (subst (λ t. Reads t x) is reads) also in
    (ap (λ m. m.essence) one, ap (λ m. m.pairs) one)

-- Kept texts that are the same are kept texts of equal values.
pub same_from_kept : (text other : List ℕ) (positions places : Positions) (first second : MediaType) → IsKept text positions
    → IsKept other places → media_of text positions ≡ first → media_of other places ≡ second → text ≡ other
    → Same first second
same_from_kept text other positions places first second kept also is there same =
    subst (Same first) there (subst (λ x. Same x (media_of other places)) is
    (same_from_text text other _ _ (reads-from_kept text positions kept) (reads-from_kept other places also) same))

-- Without pairs the kept text is the essence.
pub kept-essence : (x : MediaType) (text : List ℕ) → Reads text x → length x.pairs ≡ 0 → x.kept ≡ x.essence
kept-essence x text reads none = search rules
