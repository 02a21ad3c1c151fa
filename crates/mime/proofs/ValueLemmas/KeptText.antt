-- The kept text of an accepted text, and the value of a kept text.
use Rattle.std.proofs.Common.{◌≡◌, ◌≢◌, ℕ, zero, suc, ◌+◌, List, ◌∷◌, ◌++◌, length, take, drop, Option, None, Some, refl, sym, ap, ◌∙◌}
use Rattle.std.proofs.Common.{subst, arith, append-nil, append_assoc, length-append, rules}
use Rattle.std.specs.Prelude.{slice_get}
use Rattle.std.proofs.lemmas.List.{take_at, drop_at, take_all, take-append-drop}
use Rattle.std.proofs.lemmas.Grind.{common_steps}
use Rattle.mime.specs.Bytes.{slash_byte, semicolon_byte}
use Rattle.mime.specs.Grammar.{Parameters, blank, final, more, Tail, no_list, listed, SyntaxTree, text_of, text_of_tail, text_of_list}
use Rattle.mime.specs.Grammar.{AreParameters, IsTail, IsWellFormed}
use Rattle.mime.specs.Values.{MediaType, Reads, value_of, essence_of, kept_text, lowered, lowered_tree, last_plus, pairs_of_list}
use Rattle.mime.specs.Values.{pairs_of_tail}
use Rattle.mime.specs.Inner.Pairs.{pairs_within, lowered_within}
use Rattle.mime.specs.Inner.Scanning.{HasPositions, positions_of, semicolon_of, before_list}
use Rattle.mime.specs.Inner.KeptText.{media_of, IsKept, with_pairs_lowered, kept_text_of, kept_positions}
use Rattle.mime.specs.declared.scan.Positions.{Positions}
use Rattle.mime.proofs.BytesLemmas.{slice_get-prefix}
use Rattle.mime.proofs.LowercaseLemmas.{lowered-append, lowered_tree-lowered_tree, IsWellFormed-lowered_tree, positions_of-lowered_tree}
use Rattle.mime.proofs.ValueLemmas.Utf8.{IsLoweredInPart, length-in_part, lowercase, in_parts}
use Rattle.mime.proofs.ValueLemmas.Pairs.{lowered_within-in_part}
use Rattle.mime.proofs.ValueLemmas.ListText.{pairs_within-text_of_list, lowered_within-text_of_list}
use Rattle.mime_search.proofs.IgnoringCase.{length-lowered}

-- a tree by its parts
abbrev tree_with : List ℕ → List ℕ → Tail → SyntaxTree
tree_with top sub tail = record { top = top; sub = sub; tail = tail }

-- The text of a tree is its essence and what follows that.
pub text_of-essence : (tree : SyntaxTree) → text_of tree ≡ essence_of tree ++ text_of_tail tree.tail
text_of-essence tree = sym (append_assoc tree.top (slash_byte ∷ tree.sub) (text_of_tail tree.tail))

-- A tree's essence is as long as its type, a slash and its subtype.
pub length-essence_of : (tree : SyntaxTree) → length (essence_of tree) ≡ length tree.top + 1 + length tree.sub
length-essence_of tree = omega (arith, length-append tree.top (slash_byte ∷ tree.sub))

-- The essence is the text before that position.
pub take-essence : (tree : SyntaxTree) → take (length tree.top + 1 + length tree.sub) (text_of tree) ≡ essence_of tree
take-essence tree = search (text_of-essence, length-essence_of, take_at, rules)

-- A text is its head, which ends in the semicolon, and the rest.
semicolon_split : (top sub after : List ℕ)
    → top ++ (slash_byte ∷ (sub ++ (semicolon_byte ∷ after))) ≡ text_of (before_list top sub) ++ after
semicolon_split top sub after = simp append_assoc

-- A head is as long as its type, a slash, its subtype and a semicolon.
pub length-before_list : (top sub : List ℕ) → length (text_of (before_list top sub)) ≡ length top + 1 + length sub + 1
length-before_list top sub = grind (arith, common_steps)

-- A text begins with its head.
take-to_semicolon : (top sub after : List ℕ)
    → take (length top + 1 + length sub + 1) (top ++ (slash_byte ∷ (sub ++ (semicolon_byte ∷ after))))
    ≡ text_of (before_list top sub)
take-to_semicolon top sub after = ap (take _) (semicolon_split top sub after) ∙ take_at _ after _ (length-before_list top sub)

-- What follows the head of a text is its list.
drop-to_semicolon : (top sub after : List ℕ)
    → drop (length top + 1 + length sub + 1) (top ++ (slash_byte ∷ (sub ++ (semicolon_byte ∷ after)))) ≡ after
drop-to_semicolon top sub after = ap (drop _) (semicolon_split top sub after) ∙ drop_at _ after _ (length-before_list top sub)

-- the value of a tree that is its own lowercased form
abbrev pub value_of_low : SyntaxTree → MediaType
value_of_low low = record {
  essence = essence_of low;
  slash = length low.top;
  plus = last_plus (length low.top + 2) (drop 1 low.sub);
  pairs = pairs_of_tail low.tail;
  kept = kept_text (pairs_of_tail low.tail) low;
}

-- A tree's value is that of it in lowercase.
pub value_of-lowering : (tree : SyntaxTree) → value_of tree ≡ value_of_low (lowered_tree tree)
value_of-lowering tree = rw (length-lowered tree.top)

-- a text is kept, with the value of a tree
pub record Keeps (tree : SyntaxTree) (text : List ℕ) (positions : Positions) : Type 0 where
  pub is_kept : IsKept text positions
  pub valued : value_of tree ≡ value_of is_kept.has.tree

-- A tree is kept as another that has its value: the tree itself, or the one that its essence spells.
keeps_as : (tree kept : SyntaxTree) (text : List ℕ) → IsWellFormed kept → kept_positions (positions_of kept) ≡ positions_of kept
    → text_of (lowered_tree kept) ≡ text → value_of tree ≡ value_of kept → Keeps tree text (positions_of kept)
keeps_as tree kept text well holds spelled valued = record {
  is_kept = record {
    has = record {
      tree = lowered_tree kept;
      well_formed = IsWellFormed-lowered_tree kept well;
      spelled = spelled;
      same_positions = positions_of-lowered_tree kept;
    };
    low = lowered_tree-lowered_tree kept;
    kept = holds;
  };
  valued = valued ∙ value_of-lowering kept
      ∙ sym (value_of-lowering (lowered_tree kept) ∙ ap value_of_low (lowered_tree-lowered_tree kept));
}

-- The lowercased text of a tree with a list is lowercased up to the semicolon, and then pair by pair.
whole_text : (top sub : List ℕ) (list : Parameters) → AreParameters list → text_of (lowered_tree (tree_with top sub (listed list)))
    ≡ lowered (take (length top + 1 + length sub + 1) (text_of (tree_with top sub (listed list))))
    ++ lowered_within (length (pairs_of_list list)) (drop (length top + 1 + length sub + 1) (text_of (tree_with top sub (listed list))))
whole_text top sub list well =
    search (take-to_semicolon, drop-to_semicolon, append_assoc, lowered-append, lowered_within-text_of_list, rules)

-- The lowercased text of a tree without a list is its essence, lowercased.
essence_text : (top sub text : List ℕ) → text ≡ top ++ (slash_byte ∷ sub)
    → text_of (lowered_tree (tree_with top sub no_list)) ≡ lowered text
essence_text top sub text is = rw (is, lowered-append top (slash_byte ∷ sub), append-nil (lowered sub)) refl

-- Every accepted text is kept so.
keeps_parts : (top sub : List ℕ) (tail : Tail) → IsWellFormed (tree_with top sub tail) → Keeps (tree_with top sub tail)
    (kept_text_of (length (pairs_of_tail tail)) (semicolon_of (length top + 1 + length sub) tail) (text_of (tree_with top sub tail)))
    (kept_positions (positions_of (tree_with top sub tail)))
keeps_parts top sub no_list well =
    keeps_as _ (tree_with top sub no_list) _ well refl (essence_text top sub _ (ap (λ x. top ++ (slash_byte ∷ x)) (append-nil sub))) refl
keeps_parts top sub (listed (blank n)) well =
    keeps_as _ (tree_with top sub no_list) _ (well.0, well.1, tt) refl
    (essence_text top sub _ (take-essence (tree_with top sub (listed (blank n))))) refl
keeps_parts top sub (listed (final n p)) well =
    keeps_as _ (tree_with top sub (listed (final n p))) _ well refl (whole_text top sub (final n p) well.2) refl
keeps_parts top sub (listed (more n p rest)) well =
    keeps_as _ (tree_with top sub (listed (more n p rest))) _ well refl (whole_text top sub (more n p rest) well.2) refl

-- A tree's parts are kept by the positions of the tree.
pub keeps-tree : (tree : SyntaxTree) → IsWellFormed tree
    → Keeps tree (kept_text_of (positions_of tree).pair_count (positions_of tree).semicolon (text_of tree))
    (kept_positions (positions_of tree))
keeps-tree tree well = keeps_parts tree.top tree.sub tree.tail well

-- The pairs of a tree with a list, cut out of its text.
pub pairs_within-text_of : (top sub : List ℕ) (list : Parameters) → AreParameters list
    → pairs_within (length (pairs_of_list list)) (drop (length top + 1 + length sub + 1) (text_of (tree_with top sub (listed list))))
    ≡ pairs_of_list list
pairs_within-text_of top sub list well = rw (drop-to_semicolon top sub (text_of_list list)) (pairs_within-text_of_list list well)

-- The value of a tree with a parameter, cut out of its text.
media_whole : (top sub : List ℕ) (list : Parameters) → AreParameters list
    → let tree = tree_with top sub (listed list) in kept_text (pairs_of_list list) tree ≡ text_of tree
    → value_of_low tree ≡ media_of (text_of tree) (positions_of tree)
media_whole top sub list well kept = cc (kept, take-essence (tree_with top sub (listed list)), pairs_within-text_of top sub list well)

-- The value of a kept tree is that of its text and its positions.
media_parts : (top sub : List ℕ) (tail : Tail) → IsTail tail
    → let positions = positions_of (tree_with top sub tail) in kept_positions positions ≡ positions
    → value_of_low (tree_with top sub tail) ≡ media_of (text_of (tree_with top sub tail)) (positions_of (tree_with top sub tail))
media_parts top sub no_list well holds =
    rw (append-nil sub, take_all (length (top ++ (slash_byte ∷ sub))) (top ++ (slash_byte ∷ sub)) (omega arith))
media_parts top sub (listed (blank n)) well holds = absurd (let none = ap (λ (p : Positions). p.semicolon) holds in cc)
media_parts top sub (listed (final n p)) well holds = media_whole top sub (final n p) well refl
media_parts top sub (listed (more n p rest)) well holds = media_whole top sub (more n p rest) well refl

-- The value of a kept text's tree is that of its positions.
pub media_of-kept : (text : List ℕ) (positions : Positions) (is_kept : IsKept text positions)
    → value_of is_kept.has.tree ≡ media_of text positions
media_of-kept text positions is_kept = search (value_of-lowering, media_parts, rules)

-- An accepted text reads as its tree's value.
pub reads_as : {text : List ℕ} {positions : Positions} {value : MediaType} (has : HasPositions text positions)
    → value_of has.tree ≡ value → Reads text value
reads_as has valued = record { tree = has.tree; well_formed = has.well_formed; spelled = has.spelled; valued = valued }

-- A kept text is read as the value of its parts.
pub reads-from_kept : (text : List ℕ) (positions : Positions) → IsKept text positions → Reads text (media_of text positions)
reads-from_kept text positions is_kept = reads_as is_kept.has (media_of-kept text positions is_kept)

-- A text that keeps a tree has the tree's value.
kept_media : (tree : SyntaxTree) (text : List ℕ) (positions : Positions) → Keeps tree text positions
    → value_of tree ≡ media_of text positions
kept_media tree text positions keeps = keeps.valued ∙ media_of-kept text positions keeps.is_kept

-- What holds of the text and the positions of a tree holds of an accepted text.
at_tree : (P : List ℕ → Positions → Type 0) (text : List ℕ) (positions : Positions) (has : HasPositions text positions)
    → P (text_of has.tree) (positions_of has.tree) → P text positions
at_tree P text positions has here = subst (λ x. P x positions) has.spelled (subst (P (text_of has.tree)) has.same_positions here)

-- An accepted text keeps its tree.
keeps-accepted : (text : List ℕ) (positions : Positions) (has : HasPositions text positions)
    → Keeps has.tree (kept_text_of positions.pair_count positions.semicolon text) (kept_positions positions)
keeps-accepted text positions has = search (keeps-tree, at_tree, rules)

-- The kept text of an accepted text is kept.
pub kept-from_positions : (text : List ℕ) (positions : Positions) → HasPositions text positions
    → IsKept (kept_text_of positions.pair_count positions.semicolon text) (kept_positions positions)
kept-from_positions text positions has = (keeps-accepted text positions has).is_kept

-- An accepted text is read as the value of its kept text.
pub kept_reads : (text : List ℕ) (positions : Positions) → HasPositions text positions
    → Reads text (media_of (kept_text_of positions.pair_count positions.semicolon text) (kept_positions positions))
kept_reads text positions has = reads_as has (kept_media has.tree _ _ (keeps-accepted text positions has))

-- The kept text of a value that was read reads as the value.
pub kept_is_read : (text : List ℕ) (value : MediaType) → Reads text value → Reads value.kept value
kept_is_read text value reads =
    let keeps = keeps-tree reads.tree reads.well_formed in
    let is = sym reads.valued ∙ kept_media reads.tree _ _ keeps in
    subst (λ (v : MediaType). Reads v.kept v) (sym is) (reads-from_kept _ _ keeps.is_kept)

-- The semicolon is at its position in the tree.
semicolon-there : (top sub : List ℕ) (tail : Tail) (s : ℕ) → semicolon_of (length top + 1 + length sub) tail ≡ Some s
    → slice_get (text_of (tree_with top sub tail)) s ≡ Some semicolon_byte
semicolon-there top sub no_list s is = absurd cc
semicolon-there top sub (listed list) s is =
    let tree : SyntaxTree = tree_with top sub (listed list) in
    let position : length top + 1 + length sub ≡ s = cc in
    ap (λ t. slice_get t s) (text_of-essence tree)
    ∙ slice_get-prefix (essence_of tree) semicolon_byte (text_of_list list) s (omega (arith, position, length-essence_of tree))

-- An accepted text has a semicolon where its positions say so.
pub slice_get-semicolon : (text : List ℕ) (positions : Positions) (s : ℕ) → HasPositions text positions
    → positions.semicolon ≡ Some s → slice_get text s ≡ Some semicolon_byte
slice_get-semicolon text positions s has is = search (at_tree, semicolon-there, rules)

-- The kept text of a text with a pair is that text with some parts lowercased.
pub kept-in_part : (count s : ℕ) (text : List ℕ) → IsLoweredInPart text (with_pairs_lowered count s text)
kept-in_part count s text =
    subst (λ t. IsLoweredInPart t (with_pairs_lowered count s text)) (take-append-drop (s + 1) text)
    (in_parts _ _ _ _ (lowercase (take (s + 1) text)) (lowered_within-in_part count (drop (s + 1) text)))

-- The kept text of a text with a pair is as long as that text.
pub length-kept : (count : ℕ) (semicolon : Option ℕ) (text : List ℕ) → count ≢ 0
    → length text ≡ length (kept_text_of count semicolon text)
length-kept count None text some = sym (length-lowered text)
length-kept zero (Some s) text some = absurd (some refl)
length-kept (suc count) (Some s) text some = sym (length-in_part text _ (kept-in_part (suc count) s text))
