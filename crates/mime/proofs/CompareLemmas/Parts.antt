-- A text against a value: what a text has that is equal to the value, and what suffices.
use Rattle.std.proofs.lemmas.Grind.{common_steps}
use Rattle.std.proofs.lemmas.Bool.Decides.{nat_tests}
use Rattle.std.proofs.lemmas.List.{nil_from_length, take-append-drop}
use Rattle.std.proofs.lemmas.Option.{same_Some}
use Rattle.std.proofs.lemmas.List.Folds.{list_all-append}
use Rattle.std.proofs.Common.{◌≡◌, ℕ, ◌+◌, arith, List, [], ◌∷◌, ◌++◌, length, take, drop, Some, map, refl, sym, ap, ◌∙◌, subst, ◌↔◌, rules}
use Rattle.std.specs.Prelude.{◌≢◌, ◌==◌, not, codes}
use Rattle.std.specs.List.{list_all}
use Rattle.mime.specs.Bytes.{slash_byte, semicolon_byte}
use Rattle.mime.specs.Grammar.{Tail, no_list, listed, SyntaxTree, text_of, IsToken, IsWellFormed}
use Rattle.mime.specs.Values.{MediaType, Reads, value_of, essence_of, lowered, lowered_tail, pairs_of_list, pairs_of_tail}
use Rattle.mime.specs.Comparison.{TextIs, HasNoSemicolon, Same}
use Rattle.mime.specs.Inner.Pairs.{pairs_within}
use Rattle.mime.specs.Inner.Scanning.{positions_of, semicolon_of}
use Rattle.mime.specs.Inner.KeptText.{lowered_pair}
use Rattle.mime.specs.Inner.ComparedText.{StartsWithEssence, IsAcceptedAt, IsLoneCharset}
use Rattle.mime.specs.Laws.{KeptTextIs}
use Rattle.mime.proofs.BytesLemmas.{AreTokenBytes-from_token, are_other-token, semicolon_is_no_token}
use Rattle.mime.proofs.ValueLemmas.Pairs.{cut_of-name}
use Rattle.mime.proofs.ValueLemmas.Parts.{kept-essence, read-low_essence}
use Rattle.mime.proofs.ValueLemmas.KeptText.{take-essence, length-essence_of, slice_get-semicolon, kept_is_read, pairs_within-text_of}
use Rattle.mime.proofs.LowercaseLemmas.{lowered-append, length-tail_lowered, pairs_of_tail-lowered, list_all-lowered}
use Rattle.mime.proofs.GrammarLemmas.Readings.{one_reading}
use Rattle.mime.proofs.CompareLemmas.OtherCase.{case_read, case_read-count, case_read-lone_charset}
use Rattle.mime_search.proofs.IgnoringCase.{length-lowered}

-- ---- what an accepted text with parameters is read as

-- A value's essence is its tree's, lowercased.
pub essence-lowered : (tree : SyntaxTree) → (value_of tree).essence ≡ lowered (essence_of tree)
essence-lowered tree = sym (lowered-append tree.top (slash_byte ∷ tree.sub))

-- A value's essence is as long as its tree's.
pub length-value_essence : (tree : SyntaxTree) → length (value_of tree).essence ≡ length tree.top + 1 + length tree.sub
length-value_essence tree = ap length (essence-lowered tree) ∙ length-lowered (essence_of tree) ∙ length-essence_of tree

-- the value of an accepted text that has a semicolon, by its positions
record ReadAt (text : List ℕ) (end count : ℕ) : Type 0 where
  value : MediaType
  reads : Reads text value
  essence : value.essence ≡ lowered (take end text)
  pairs : value.pairs ≡ map lowered_pair (pairs_within count (drop (end + 1) text))

-- The text of a tree is read at its end and its number of pairs.
read_at-tree : (top sub : List ℕ) (tail : Tail) → let tree : SyntaxTree = record { top = top; sub = sub; tail = tail } in
    IsWellFormed tree → (end : ℕ) → semicolon_of (length top + 1 + length sub) tail ≡ Some end
    → ReadAt (text_of tree) end (length (pairs_of_tail tail))
read_at-tree top sub no_list well end at = absurd cc
read_at-tree top sub (listed list) well end at =
    let tree : SyntaxTree = record { top = top; sub = sub; tail = listed list } in
    subst (λ n. ReadAt (text_of tree) n (length (pairs_of_list list))) (same_Some (length top + 1 + length sub) end at) (record {
      value = value_of tree;
      reads = record { tree = tree; well_formed = well; spelled = refl; valued = refl };
      essence = essence-lowered tree ∙ ap lowered (sym (take-essence tree));
      pairs = pairs_of_tail-lowered (listed list) ∙ ap (map lowered_pair) (sym (pairs_within-text_of top sub list well.2));
    })

-- Every accepted text is read at its end and its number of pairs.
read_at : (text : List ℕ) (end count : ℕ) → IsAcceptedAt text end count → ReadAt text end count
read_at text end count is = search (read_at-tree, rules)

-- A text that is read as a value with pairs is accepted so.
accepted_at : (text : List ℕ) (value : MediaType) → Reads text value → value.pairs ≢ []
    → IsAcceptedAt text (length value.essence) (length value.pairs)
accepted_at text value reads some =
    let tree = reads.tree in
    record {
      positions = positions_of tree;
      has = record { tree = tree; well_formed = reads.well_formed; spelled = reads.spelled; same_positions = refl };
      at = listed_at _ tree.tail (ap (λ (v : MediaType). v.pairs) reads.valued)
          ∙ ap Some (sym (length-value_essence tree) ∙ ap (λ (v : MediaType). length v.essence) reads.valued);
      counted = sym (length-tail_lowered tree.tail) ∙ ap (λ (v : MediaType). length v.pairs) reads.valued;
    }
  where
    listed_at : (n : ℕ) (tail : Tail) → pairs_of_tail (lowered_tail tail) ≡ value.pairs → semicolon_of n tail ≡ Some n
    listed_at n no_list is = absurd (some (sym is))
    listed_at n (listed list) is = refl

-- ---- a text against a value with pairs

-- what a text has that is equal to a value with pairs
pub record TextParts (value : MediaType) (text : List ℕ) : Type 0 where
  pub list : StartsWithEssence value.essence text
  pub pairs : value.pairs ≡ map lowered_pair (pairs_within (length value.pairs) (drop (length value.essence + 1) text))
  pub accepted : IsAcceptedAt text (length value.essence) (length value.pairs)

-- A text is equal to a value with pairs exactly if it has these parts.
pub text_is-by_parts : (kept text : List ℕ) (value : MediaType) → Reads kept value → value.pairs ≢ []
    → TextIs value text ↔ TextParts value text
text_is-by_parts kept text value reads some =
    let low = read-low_essence kept value reads in (
      λ is.
          let at : IsAcceptedAt text (length value.essence) (length value.pairs) =
          subst (λ n. IsAcceptedAt text n (length value.pairs)) (ap length (sym is.same.0))
          (subst (IsAcceptedAt text (length is.read.essence)) (ap length (sym is.same.1))
          (accepted_at text is.read is.reads (λ none. some (is.same.1 ∙ none)))) in
          let read = read_at text (length value.essence) (length value.pairs) at in
          let one : is.read ≡ read.value = one_reading text is.read read.value is.reads read.reads in
          record {
            list = (
              slice_get-semicolon text at.positions (length value.essence) at.has at.at,
              low ∙ is.same.0 ∙ ap (λ (v : MediaType). v.essence) one ∙ read.essence,
            );
            pairs = is.same.1 ∙ ap (λ (v : MediaType). v.pairs) one ∙ read.pairs;
            accepted = at;
          },
      λ parts.
          let read = read_at text (length value.essence) (length value.pairs) parts.accepted in
          record {
            read = read.value;
            reads = read.reads;
            same = (sym low ∙ parts.list.1 ∙ sym read.essence, parts.pairs ∙ sym read.pairs);
            bare = λ none. absurd (some none);
          },
    )

-- A text that differs from the kept text only in case is accepted.
pub accepted_at-case : (kept text : List ℕ) (value : MediaType) → Reads kept value → value.pairs ≢ []
    → lowered kept ≡ lowered text → IsAcceptedAt text (length value.essence) (length value.pairs)
accepted_at-case kept text value reads some is =
    let found = case_read text kept value reads (sym is) in
    let counted = case_read-count text value found in
    subst (λ n. IsAcceptedAt text n (length value.pairs)) (ap length (sym found.essence))
    (subst (IsAcceptedAt text (length found.read.essence)) (sym counted)
    (accepted_at text found.read found.reads (λ none. some (nil_from_length value.pairs (counted ∙ ap length none)))))

-- A text that differs from the kept text only in case is equal to the value, if the only parameter is a charset.
pub text_is-lone_charset : (kept text : List ℕ) (value : MediaType) → Reads kept value → value.pairs ≢ []
    → lowered kept ≡ lowered text → IsLoneCharset value.pairs → TextIs value text
text_is-lone_charset kept text value reads some is lone =
    let found = case_read text kept value reads (sym is) in
    record {
      read = found.read;
      reads = found.reads;
      same = case_read-lone_charset text kept value found reads lone;
      bare = λ none. absurd (some none);
    }

-- ---- a lone charset

-- The only pair of a list that begins with ` charset=` or `charset=` is a charset.
pub lone_charset : (list : List ℕ) → take 9 list ≡ codes " charset=" → IsLoneCharset (pairs_within 1 list)
lone_charset list is = search (take-append-drop, cut_of-name, rules)

pub lone_charset-bare : (list : List ℕ) → take 8 list ≡ codes "charset=" → IsLoneCharset (pairs_within 1 list)
lone_charset-bare list is = search (take-append-drop, cut_of-name, rules)

-- ---- a text against a value without pairs

-- The essence of a tree has no semicolon.
bare_essence : (top sub : List ℕ) → IsToken top → IsToken sub → HasNoSemicolon (top ++ (slash_byte ∷ sub))
bare_essence top sub token sub_token =
    list_all-append (λ b. not (b == semicolon_byte)) top (slash_byte ∷ sub) ∙ cc (
      are_other-token semicolon_byte semicolon_is_no_token top (AreTokenBytes-from_token top token),
      are_other-token semicolon_byte semicolon_is_no_token sub (AreTokenBytes-from_token sub sub_token),
    )

-- Lowercasing keeps semicolons.
HasNoSemicolon-lowered : (text : List ℕ)
    → list_all (λ b. not (b == semicolon_byte)) (lowered text) ≡ list_all (λ b. not (b == semicolon_byte)) text
HasNoSemicolon-lowered = list_all-lowered (λ b. not (b == semicolon_byte)) (λ b. grind (arith, nat_tests))

-- A text that, lowercased, is the essence of a value without pairs is equal to the value.
pub text_is-from_lowered : (text kept : List ℕ) (value : MediaType) → Reads kept value → value.pairs ≡ []
    → lowered text ≡ value.essence → TextIs value text
text_is-from_lowered text kept value reads none is =
    let low = read-low_essence kept value reads in
    let same = sym (kept-essence value kept reads (ap length none)) in
    let found = case_read text value.kept value (kept_is_read kept value reads) (is ∙ sym low ∙ ap lowered same) in
    let tree = reads.tree in
    let essence : lowered (essence_of tree) ≡ value.essence =
    sym (essence-lowered tree) ∙ ap (λ (v : MediaType). v.essence) reads.valued in
    let bare = bare_essence tree.top tree.sub reads.well_formed.0 reads.well_formed.1 in
    record {
      read = found.read;
      reads = found.reads;
      same = (found.essence, none ∙ sym (nil_from_length found.read.pairs (sym (case_read-count text value found) ∙ ap length none)));
      bare = λ _. sym (HasNoSemicolon-lowered text) ∙ ap (list_all _) (is ∙ sym essence)
          ∙ HasNoSemicolon-lowered (essence_of tree) ∙ bare;
    }

-- A text is equal to a value without pairs exactly if, lowercased, it is the kept text.
pub text_is-bare : (kept : List ℕ) (value : MediaType) → Reads kept value → value.pairs ≡ []
    → (text : List ℕ) → TextIs value text ↔ (lowered text ≡ value.kept)
text_is-bare kept value reads none text =
    subst (λ whole. TextIs value text ↔ (lowered text ≡ whole)) (sym (kept-essence value kept reads (ap length none))) (
      λ is.
          let tree = is.reads.tree in
          let spelled = is.reads.spelled in
          let bare = subst HasNoSemicolon (sym spelled) (is.bare none) in
          let whole : text_of tree ≡ essence_of tree = grind (arith, common_steps) in
          ap lowered (sym spelled ∙ whole)
          ∙ sym (essence-lowered tree) ∙ ap (λ (v : MediaType). v.essence) is.reads.valued ∙ sym is.same.0,
      λ low. text_is-from_lowered text kept value reads none low,
    )

-- A text is a value without parameters exactly if it is the kept text ignoring ASCII case.
pub text_is-kept_case : (kept text : List ℕ) (value : MediaType) → Reads kept value → kept ≡ value.kept → value.pairs ≡ []
    → TextIs value text ↔ (lowered kept ≡ lowered text)
text_is-kept_case kept text value reads is none =
    let told = text_is-bare kept value reads none text in
    let essence = is ∙ kept-essence value kept reads (ap length none) in
    let low : lowered kept ≡ value.kept = ap lowered essence ∙ read-low_essence kept value reads ∙ sym essence ∙ is in
    (λ at. low ∙ sym (told.0 at), λ at. told.1 (sym at ∙ low))

-- The kept text of a value without parameters has no semicolon.
kept-no_semicolon : (text : List ℕ) (value : MediaType) → Reads text value → value.pairs ≡ [] → HasNoSemicolon value.kept
kept-no_semicolon text value reads none =
    let is = kept-essence value text reads (ap length none) in
    let low = read-low_essence text value reads in
    (text_is-from_lowered value.kept text value reads none (ap lowered is ∙ low)).bare none

-- A value is equal to the kept text of a value that was read exactly if the two values are equal.
pub kept_text_is : KeptTextIs
kept_text_is text value reads other = (
  λ is. subst (Same other) (one_reading value.kept is.read value is.reads (kept_is_read text value reads)) is.same,
  λ same. record {
    read = value;
    reads = kept_is_read text value reads;
    same = same;
    bare = λ none. kept-no_semicolon text value reads (sym same.1 ∙ none);
  },
)
