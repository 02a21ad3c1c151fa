-- How many bytes the strings are.
use Rattle.std.proofs.Common.{rules, ◌≡◌, ℕ, zero, suc, ◌+◌, ◌*◌, ◌<◌, ◌≤◌, List, [], ◌∷◌, ◌++◌, length, take, Option, Some, None, sym, ap}
use Rattle.std.proofs.Common.{◌∙◌, subst, arith, length-append, length-take}
use Rattle.std.proofs.{lemmas.List.map-append, lemmas.List.Concat.flat_map-append}
use Rattle.mime.specs.Grammar.{Parameter, plain, quoted, Parameters, blank, final, more, Tail, no_list, listed, SyntaxTree, text_of}
use Rattle.mime.specs.Grammar.{text_of_parameter, text_of_list, text_of_tail}
use Rattle.mime.specs.Values.{MediaType, Reads, pair_of, pairs_of_list, pairs_of_tail, kept_text}
use Rattle.mime.specs.Cut.{CutItem, ItemsOf, is_read, is_rejected, is_empty, Cut, whole, unfinished, goes_on}
use Rattle.mime.proofs.HandedOut.{length-lowered, positions_of, kept_text_of, length-in_part, text_of-essence, length-essence_of}
use Rattle.mime.proofs.HandedOut.{value_of_low, value_of-lowering, keeps-tree, kept-in_part, split-size, token-size}
use Rattle.mime_c.specs.Strings.{strings, texts_of, item_texts}
use Rattle.mime_c.specs.declared.TheConstants.{MIME_GOOD, MIME_BAD}
use Rattle.mime_c.proofs.NoZero.{pair_texts}

-- A string has one byte more than its text.
length-strings : (text : List ℕ) (texts : List (List ℕ))
    → length (strings (text ∷ texts)) ≡ length text + 1 + length (strings texts)
length-strings text texts = omega (arith, length-append {A = ℕ})

-- ---- the strings of a tree that is in lowercase already

-- The strings of a parameter are at most one byte more than its text.
room-parameter : (parameter : Parameter) (pairs : List (List ℕ × List ℕ))
    → length (strings (pair_texts (pair_of parameter ∷ pairs))) ≤ length (text_of_parameter parameter) + 1 + length
    (strings (pair_texts pairs))
room-parameter (plain name value) pairs = omega (arith, length-strings, length-append {A = ℕ})
room-parameter (quoted name content n) pairs = omega (arith, length-strings, length-append {A = ℕ})

-- The strings of a list of parameters are at most one byte more than its text.
room-list : (list : Parameters) → length (strings (pair_texts (pairs_of_list list))) ≤ length (text_of_list list) + 1
room-list (blank n) = omega arith
room-list (final n parameter) = omega (arith, room-parameter parameter [], length-append {A = ℕ})
room-list (more n parameter rest) = omega (arith, room-parameter parameter (pairs_of_list rest), room-list rest, length-append {A = ℕ})

-- The strings of what follows an essence are at most as many bytes as it.
room-tail : (tail : Tail) → length (strings (pair_texts (pairs_of_tail tail))) ≤ length (text_of_tail tail)
room-tail no_list = omega arith
room-tail (listed list) = omega (arith, room-list list)

-- The kept text is no longer than the text.
room-kept : (tree : SyntaxTree) (pairs : List (List ℕ × List ℕ)) → length (kept_text pairs tree) ≤ length (text_of tree)
room-kept tree [] = omega (arith, ap length (text_of-essence tree), length-append {A = ℕ})
room-kept tree (pair ∷ pairs) = omega arith

-- ---- the strings of a media type

-- How long a kept text and the strings of a media type are, beside the text that is read as it.
abbrev pub Lengths : List ℕ → MediaType → Type 0
Lengths text media =
    (length media.kept ≤ length text) × (length (strings (texts_of media)) ≤ 2 * length text + 2) × (2 < length text)
    × (length media.essence + length (strings (pair_texts media.pairs)) ≤ length text)

-- A text in lowercase is long enough for the strings of its media type.
lengths-low : (text : List ℕ) (tree : SyntaxTree) → length (text_of tree) ≤ length text → 2 < length text
    → Lengths text (value_of_low tree)
lengths-low text tree size some =
    search (room-kept, flat_map-append, text_of-essence, length-append, length-strings, room-tail, rules)

-- A kept text is no longer than its text.
length-kept : (pairs : ℕ) (semicolon : Option ℕ) (text : List ℕ) → length (kept_text_of pairs semicolon text) ≤ length text
length-kept pairs None text = omega (arith, length-lowered text)
length-kept zero (Some semicolon) text = omega (arith, length-lowered (take semicolon text), length-take semicolon text)
length-kept (suc pairs) (Some semicolon) text = omega (arith, length-in_part _ _ (kept-in_part (suc pairs) semicolon text))

-- A text is long enough for the strings of the media type that it is read as.
pub lengths_of : (text : List ℕ) (media : MediaType) → Reads text media → Lengths text media
lengths_of text media reads =
    let tree = reads.tree in
    let keeps = keeps-tree tree reads.well_formed in
    let spelled = ap length reads.spelled in
    let all = ap length (text_of-essence tree) in
    let top = token-size tree.top reads.well_formed.0 in
    let some : 2 < length text = omega (arith, length-essence_of tree, token-size tree.sub reads.well_formed.1, length-append {A = ℕ}) in
    let kept = keeps.is_kept.has in
    let size = ap length kept.spelled in
    subst (Lengths text) (sym (sym reads.valued ∙ keeps.valued ∙ value_of-lowering kept.tree ∙ ap value_of_low keeps.is_kept.low))
    (lengths-low text kept.tree
    (omega (arith, length-kept (positions_of tree).pair_count (positions_of tree).semicolon (text_of tree))) some)

-- The strings of a media type are at most twice as many bytes as the text that is read as it, and two.
pub texts_fit : (text : List ℕ) (media : MediaType) → Reads text media → length (strings (texts_of media)) ≤ 2 * length text + 2
texts_fit text media reads = (lengths_of text media reads).1

-- ---- the items of a list

-- The strings of a piece's items are at most two bytes more than the piece.
room-items : (piece : List ℕ) (items : List CutItem) → ItemsOf piece items → length (strings (item_texts items)) ≤ length piece + 2
room-items piece items (is_read media reads) = omega (arith, length-strings (MIME_GOOD ∷ media.kept) [], (lengths_of piece media reads).0)
room-items piece items (is_rejected rejected some) = omega (arith, length-strings (MIME_BAD ∷ piece) [])
room-items piece items (is_empty none) = omega arith

-- The strings of two lists of items are those of both.
pub strings_of_items : (items others : List CutItem)
    → strings (item_texts (items ++ others)) ≡ strings (item_texts items) ++ strings (item_texts others)
strings_of_items items others = search (map-append, flat_map-append, rules)

-- The strings of a text's items are at most twice as many bytes as the text.
pub items_fit : (text : List ℕ) (items : List CutItem) (rest : List ℕ) → Cut text items rest
    → length (strings (item_texts items)) ≤ 2 * length text
items_fit text items rest (whole t media reads) =
    omega (arith, length-strings (MIME_GOOD ∷ media.kept) [], lengths_of t media reads)
items_fit text items rest (unfinished t viable rejected) = omega arith
items_fit text items rest (goes_on t piece character left first others end split of_piece cut) =
    omega (
      arith,
      split-size t piece character left split,
      ap length (strings_of_items first others),
      room-items piece first of_piece,
      items_fit left others end cut,
      length-append {A = ℕ},
    )
