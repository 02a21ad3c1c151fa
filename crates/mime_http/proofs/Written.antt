-- What is written of parameters is read as them, and is written item by item.
use Rattle.mime_http.proofs.Common.{SyntaxTree, if◌then◌else◌, AllByRecursion, AreParameters, Bool, IsContent, IsSafe, IsSafePair, IsToken}
use Rattle.mime_http.proofs.Common.{IsToken-lowered, List, MediaType, Parameter, Parameters, Parts, Reads, [], append-nil, append_assoc}
use Rattle.mime_http.proofs.Common.{arith, bytes_eq, false, final, is_token_byte, is_token, length, length-append, length-lowered}
use Rattle.mime_http.proofs.Common.{list_all-lowered, listed, lowered, lowered-lowered, lowered_list, lowered_value, lowered_value-either}
use Rattle.mime_http.proofs.Common.{lowered_value-lowered, map, media_of_parts, more, nat_tests, no_list, not, others, pairs_of_list}
use Rattle.mime_http.proofs.Common.{pairs_of_tail-lowered, plain, quoted, refl, text_of_list, text_of_pair, text_of_pairs, text_of_parts}
use Rattle.mime_http.proofs.Common.{true, with_pair, ℕ, ◌++◌, ◌∷◌, ◌≡◌, Item, NameIs, bytes_eq-Decides, false_from_ne_true, items_of, ◌+◌}
use Rattle.mime_http.proofs.Common.{◌≤◌, Decides, filter, lowered_pair}

-- A value is a token exactly if it is one in lowercase.
test-lowered : (value : List ℕ) → is_token (lowered value) ≡ is_token value
unfolding is_token_byte
test-lowered [] = refl
test-lowered (b ∷ value) = list_all-lowered is_token_byte (λ x. grind (arith, nat_tests)) (b ∷ value)

-- A value is a token exactly if it is one as it is kept under any name.
test-either : (name value : List ℕ) → is_token (lowered_value name value) ≡ is_token value
test-either name value = lowered_value-either (λ v. is_token v ≡ is_token value) name value refl (test-lowered value)

-- A value has as many bytes as it is kept with.
pub length-lowered_value : (name value : List ℕ) → length (lowered_value name value) ≡ length value
length-lowered_value name value = lowered_value-either (λ v. length v ≡ length value) name value refl (length-lowered value)

-- The rules by which lengths of texts in lowercase are compared.
pub ruleset lengths = (length-append, length-lowered, length-lowered_value)

-- The text of pairs has as many bytes as that of the pairs in lowercase.
pub length-pairs : (pairs : List (List ℕ × List ℕ))
    → length (text_of_pairs (map lowered_pair pairs)) ≡ length (text_of_pairs pairs)
length-pairs [] = refl
length-pairs ((name, value) ∷ pairs) = grind (arith, length-pairs pairs, test-either, lengths)

-- The parameter of a pair: its value is a token, or in quotes.
abbrev parameter_of : List ℕ × List ℕ → Parameter
parameter_of (name, value) = if is_token value then plain name value else quoted name value []

-- The list of the parameters of pairs, each after a space.
abbrev list_of : List ℕ × List ℕ → List (List ℕ × List ℕ) → Parameters
list_of pair [] = final (32 ∷ []) (parameter_of pair)
list_of pair (next ∷ pairs) = more (32 ∷ []) (parameter_of pair) (list_of next pairs)

-- The parameters of safe pairs are well formed.
well_formed_list : (pair : List ℕ × List ℕ) (pairs : List (List ℕ × List ℕ)) → AllByRecursion IsSafePair (pair ∷ pairs)
    → AreParameters (list_of pair pairs)
well_formed_list (name, value) [] (is, all) = grind arith
well_formed_list (name, value) (next ∷ pairs) (is, all) = grind (arith, well_formed_list next pairs)

-- The parameters of pairs are written as the pairs are, and read as the pairs.
written_list : (pair : List ℕ × List ℕ) (pairs : List (List ℕ × List ℕ))
    → (59 ∷ text_of_list (list_of pair pairs) ≡ text_of_pairs (pair ∷ pairs))
    × (pairs_of_list (list_of pair pairs) ≡ pair ∷ pairs)
written_list (name, value) [] = grind (arith, append-nil)
written_list (name, value) (next ∷ pairs) = grind (arith, written_list next pairs, append-nil, append_assoc)

-- The parameters of pairs, in lowercase, are those of the pairs in lowercase.
lowered_all : (pair : List ℕ × List ℕ) (pairs : List (List ℕ × List ℕ))
    → lowered_list (list_of pair pairs) ≡ list_of (lowered_pair pair) (map lowered_pair pairs)
lowered_all (name, value) [] = grind (arith, test-either name value)
lowered_all (name, value) (next ∷ pairs) = grind (arith, test-either name value, lowered_all next pairs)

-- A type, a subtype and safe pairs are read as they are written.
pub parts_are_read : (parts : Parts) → IsToken parts.top → IsToken parts.sub → AllByRecursion IsSafePair parts.pairs
    → Reads (text_of_parts parts) (media_of_parts parts)
parts_are_read parts is_top is_sub safe = go parts.pairs safe
  where
    go : (pairs : List (List ℕ × List ℕ)) → AllByRecursion IsSafePair pairs
        → Reads (text_of_parts (record parts { pairs = pairs })) (media_of_parts (record parts { pairs = pairs }))
    go [] safe =
        let tree : SyntaxTree = record { top = parts.top; sub = parts.sub; tail = no_list } in
        record { tree = tree; well_formed = (is_top, is_sub, tt); spelled = refl; valued = grind (arith, append-nil) }
    go (pair ∷ pairs) safe =
        let tree : SyntaxTree = record { top = parts.top; sub = parts.sub; tail = listed (list_of pair pairs) } in
        let low = written_list (lowered_pair pair) (map lowered_pair pairs) in record {
          tree = tree;
          well_formed = (is_top, is_sub, well_formed_list pair pairs safe);
          spelled = grind (arith, written_list pair pairs);
          valued = grind (arith, lowered_all pair pairs, low, append_assoc);
        }

-- What holds of all pairs and of one more holds of those of other names and of that one.
all_others : (P : List ℕ × List ℕ → Type 0) (name : List ℕ) (pairs : List (List ℕ × List ℕ)) (pair : List ℕ × List ℕ)
    → AllByRecursion P pairs → P pair → AllByRecursion P (others name pairs ++ (pair ∷ []))
all_others P name [] pair all last = (last, tt)
all_others P name (first ∷ pairs) pair all last = grind (arith, all_others P name pairs pair)

-- Pairs of other names stay as they are, before the new one.
others_stay : (name : List ℕ) (pairs : List (List ℕ × List ℕ)) (pair : List ℕ × List ℕ)
    → map lowered_pair (others name (map lowered_pair pairs) ++ (pair ∷ []))
    ≡ others (lowered name) (map lowered_pair pairs) ++ (lowered_pair pair ∷ [])
others_stay name [] pair = refl
others_stay name (first ∷ pairs) pair = grind (arith, others_stay name pairs pair, lowered-lowered, lowered_value-lowered)

-- An essence with the parameters of other names, and this one after them, is read as the value with this one in place of those of its name.
pub with_pair_is_read : (text : List ℕ) (value : MediaType) (name content : List ℕ) → Reads text value → IsSafe value
    → IsToken name → IsContent content → Reads (value.essence ++ text_of_pairs (others name value.pairs ++ ((name, content) ∷ [])))
    (with_pair value (lowered name) (lowered_value name content))
with_pair_is_read text value name content reads safe named is =
    let tree = reads.tree in
    let pairs = others name value.pairs ++ ((name, content) ∷ []) in
    let low : Parts = record { top = lowered tree.top; sub = lowered tree.sub; pairs = pairs } in
    let all = all_others IsSafePair name value.pairs (name, content) safe.pairs (named, is) in
    let written = parts_are_read low (IsToken-lowered tree.top reads.well_formed.0) (IsToken-lowered tree.sub reads.well_formed.1) all in
    let same : text_of_parts low ≡ value.essence ++ text_of_pairs pairs = grind (arith, reads.valued, append_assoc) in
    let media : media_of_parts low ≡ with_pair value (lowered name) (lowered_value name content) =
    grind (arith, reads.valued, lowered-lowered, length-lowered, others_stay, pairs_of_tail-lowered) in
    rw (same, media) at written

-- ---- those of other names, item by item

-- Whether an item is of a name.
abbrev pub is_named : List ℕ → Item → Bool
is_named name item = if item.name_ignores_case then bytes_eq (lowered item.name) (lowered name) else bytes_eq item.name name

-- The test for a name decides whether an item is of it.
name_decides : (name text : List ℕ) (flag : Bool)
    → Decides (if flag then bytes_eq (lowered text) (lowered name) else bytes_eq text name) (NameIs text flag name)
name_decides name text true = bytes_eq-Decides (lowered text) (lowered name)
name_decides name text false = bytes_eq-Decides text name

-- The pairs of the items of other names.
abbrev pub other_items : List ℕ → List Item → List (List ℕ × List ℕ)
other_items name items = map (λ item. (item.name, item.value)) (filter (λ item. not (is_named name item)) items)

-- The items of pairs have the same pairs of other names as the pairs.
others_of : (name : List ℕ) (pairs : List (List ℕ × List ℕ)) → other_items name (items_of pairs) ≡ others name pairs
others_of name [] = refl
others_of name (pair ∷ pairs) = grind (arith, others_of name pairs)

-- Of the items that are left, those of other names are still to be written after this text, and to be counted.
pub record Left (name whole text : List ℕ) (total count : ℕ) (items : List Item) : Type 0 where
  pub written : text ++ text_of_pairs (other_items name items) ≡ whole
  pub counted : count + length (other_items name items) ≡ total

-- At first all items are left.
pub all_left : (name essence : List ℕ) (pairs : List (List ℕ × List ℕ)) {items : List Item} {text : List ℕ}
    → items ≡ items_of pairs
    → text ≡ essence → Left name (essence ++ text_of_pairs (others name pairs)) text (length (others name pairs)) 0 items
all_left name essence pairs are is = grind (arith, others_of)

-- An item of another name is written and counted.
pub copied : {name whole text : List ℕ} {total count : ℕ} {items next : List Item} {item : Item}
    → Left name whole text total count items → items ≡ item ∷ next → ¬ (NameIs item.name item.name_ignores_case name)
    → Left name whole (text ++ text_of_pair (item.name, item.value)) total (count + 1) next
copied left is other = grind (arith, false_from_ne_true, name_decides, append_assoc)

-- The pairs of other names are no more than all pairs.
pub others_within : (name : List ℕ) (pairs : List (List ℕ × List ℕ)) → length (others name pairs) ≤ length pairs
others_within name [] = omega arith
others_within name (pair ∷ pairs) = grind (arith, others_within name pairs)

-- Each pair is written with a byte at least.
pub pairs_within_text : (pairs : List (List ℕ × List ℕ)) → length pairs ≤ length (text_of_pairs pairs)
pairs_within_text [] = omega arith
pairs_within_text (pair ∷ pairs) = omega (arith, pairs_within_text pairs, length-append (text_of_pair pair) (text_of_pairs pairs))
