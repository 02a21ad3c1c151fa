-- What lowercasing leaves as it is: lengths, cuts, classes of bytes, positions; and lowercasing twice is lowercasing once.
use Rattle.std.proofs.Common.{◌≡◌, ℕ, ◌+◌, Bool, true, map, List, [], ◌∷◌, ◌++◌, length, drop, refl, sym, ap, ◌∙◌, arith, rules}
use Rattle.std.specs.Prelude.{◌==◌, IsTrue}
use Rattle.std.specs.{Char.to_ascii_lowercase, List.list_all}
use Rattle.std.proofs.lemmas.Bool.Decides.{nat_tests}
use Rattle.std.proofs.lemmas.List.{map-append, length-map}
use Rattle.std.proofs.lemmas.List.Folds.{list_all-map}
use Rattle.std.proofs.lemmas.Str.Ascii.{lowercase-lowercase}
use Rattle.std.proofs.lemmas.Grind.{common_steps}
use Rattle.mime.specs.Bytes.{is_token_byte}
use Rattle.mime.specs.Grammar.{Parameter, plain, quoted, Parameters, blank, final, more, Tail, no_list, listed, SyntaxTree, IsToken}
use Rattle.mime.specs.Grammar.{IsContent, IsParameter, AreParameters, IsTail, IsWellFormed}
use Rattle.mime.specs.Values.{lowered, is_charset, lowered_value, lowered_parameter, lowered_list, lowered_tail, lowered_tree, last_plus}
use Rattle.mime.specs.Values.{pair_of, pairs_of_list, pairs_of_tail}
use Rattle.mime.specs.Inner.Scanning.{positions_of, semicolon_of}
use Rattle.mime.specs.Inner.KeptText.{IsLowPair, lowered_pair}
use Rattle.mime.proofs.GrammarLemmas.Content.{IsContent-case}
pub use Rattle.mime_search.proofs.IgnoringCase.{length-lowered, lowered-drop}

-- Lowercasing twice is lowercasing once.
pub lowered-lowered : (text : List ℕ) → lowered (lowered text) ≡ lowered text
lowered-lowered [] = refl
lowered-lowered (b ∷ text) = cc (lowercase-lowercase b, lowered-lowered text)

-- A text is lowercased part by part.
pub lowered-append : (prefix back : List ℕ) → lowered (prefix ++ back) ≡ lowered prefix ++ lowered back
lowered-append prefix back = map-append to_ascii_lowercase prefix back

-- Lowered bytes are of a class exactly if the bytes are, where case doesn't matter to the class.
pub list_all-lowered : (class : ℕ → Bool) → ((b : ℕ) → class (to_ascii_lowercase b) ≡ class b) → (bytes : List ℕ)
    → list_all class (lowered bytes) ≡ list_all class bytes
list_all-lowered class either bytes = list_all-map class to_ascii_lowercase bytes ∙ ap (λ c. list_all c bytes) (λ i b. either b i)

-- Bytes that differ only in case are of the same classes.
pub list_all-case : (class : ℕ → Bool) → ((b : ℕ) → class (to_ascii_lowercase b) ≡ class b) → (bytes other : List ℕ)
    → lowered other ≡ lowered bytes → list_all class bytes ≡ true → list_all class other ≡ true
list_all-case class either bytes other is all =
    sym (list_all-lowered class either other) ∙ ap (list_all class) is ∙ list_all-lowered class either bytes ∙ all

-- A token with letters of the other case is a token.
pub IsToken-case : (bytes other : List ℕ) → lowered other ≡ lowered bytes → IsToken bytes → IsToken other
unfolding is_token_byte
IsToken-case [] other is token = absurd cc
IsToken-case (b ∷ bytes) [] is token = absurd cc
IsToken-case (b ∷ bytes) (c ∷ other) is token =
    list_all-case is_token_byte (λ x. grind (arith, nat_tests)) (b ∷ bytes) (c ∷ other) is token

-- A token in lowercase is a token.
pub IsToken-lowered : (bytes : List ℕ) → IsToken bytes → IsToken (lowered bytes)
IsToken-lowered bytes = IsToken-case bytes (lowered bytes) (lowered-lowered bytes)

-- What holds of a value and of it in lowercase holds of it under any parameter's name.
pub lowered_value-either : (P : List ℕ → Type 0) (name value : List ℕ) → P value → P (lowered value)
    → P (lowered_value name value)
lowered_value-either P name value same lowercase = grind (arith, common_steps)

-- A lowercased parameter is well formed.
IsParameter-lowered : (p : Parameter) → IsParameter p → IsParameter (lowered_parameter p)
IsParameter-lowered (plain name value) (named, token) =
    (IsToken-lowered name named, lowered_value-either IsToken name value token (IsToken-lowered value token))
IsParameter-lowered (quoted name content n) (named, is, white) =
    let low = IsContent-case content (lowered content) (lowered-lowered content) is in
    (IsToken-lowered name named, lowered_value-either IsContent name content is low, white)

-- A lowercased parameter list is well formed.
AreParameters-lowered : (list : Parameters) → AreParameters list → AreParameters (lowered_list list)
AreParameters-lowered (blank n) white = white
AreParameters-lowered (final n p) (white, well) = (white, IsParameter-lowered p well)
AreParameters-lowered (more n p rest) (white, well, others) = (white, IsParameter-lowered p well, AreParameters-lowered rest others)

-- A lowercased tree is well formed.
pub IsWellFormed-lowered_tree : (tree : SyntaxTree) → IsWellFormed tree → IsWellFormed (lowered_tree tree)
IsWellFormed-lowered_tree tree well = (
  IsToken-lowered tree.top well.0,
  IsToken-lowered tree.sub well.1,
  (elim tree.tail as (λ tail. IsTail tail
      → IsTail (lowered_tail tail)) [ no_list ↦ λ well. tt | listed list ↦ AreParameters-lowered list ]) well.2,
)

-- A kept value is its own lowercased form.
pub lowered_value-lowered : (name value : List ℕ) → lowered_value (lowered name) (lowered_value name value) ≡ lowered_value name value
lowered_value-lowered name value = search (lowered-lowered, rules)

-- The parts of a pair that is its own lowercased form.
pub low_pair-parts : (name value : List ℕ) → IsLowPair (name, value)
    → (lowered name ≡ name) × (IsTrue (is_charset name) → lowered value ≡ value)
low_pair-parts name value low = search rules

-- A lowercased parameter is its own lowercased form.
lowered_parameter-lowered : (p : Parameter) → lowered_parameter (lowered_parameter p) ≡ lowered_parameter p
lowered_parameter-lowered (plain name value) = cc (lowered-lowered name, lowered_value-lowered name value)
lowered_parameter-lowered (quoted name content n) = cc (lowered-lowered name, lowered_value-lowered name content)

-- A lowercased parameter list is its own lowercased form.
lowered_list-lowered : (list : Parameters) → lowered_list (lowered_list list) ≡ lowered_list list
lowered_list-lowered (blank n) = refl
lowered_list-lowered (final n p) = ap (final n) (lowered_parameter-lowered p)
lowered_list-lowered (more n p rest) = cc (lowered_parameter-lowered p, lowered_list-lowered rest)

-- A lowercased tree is its own lowercased form.
pub lowered_tree-lowered_tree : (tree : SyntaxTree) → lowered_tree (lowered_tree tree) ≡ lowered_tree tree
lowered_tree-lowered_tree tree = search (lowered-lowered, lowered_list-lowered, rules)

-- Lowercasing keeps the position of the last plus.
pub last_plus-lowered : (at : ℕ) (bytes : List ℕ) → last_plus at (lowered bytes) ≡ last_plus at bytes
last_plus-lowered at [] = refl
last_plus-lowered at (b ∷ bytes) =
    let plus : (to_ascii_lowercase b == 43) ≡ (b == 43) = grind (arith, nat_tests) in
    rw (plus, last_plus-lowered (at + 1) bytes)

-- The pair of a lowercased parameter is its pair, lowercased.
pair_of-lowered : (p : Parameter) → pair_of (lowered_parameter p) ≡ lowered_pair (pair_of p)
pair_of-lowered p = search rules

-- The pairs of a lowercased list or tail are its pairs, lowercased.
pairs_of_list-lowered : (list : Parameters) → pairs_of_list (lowered_list list) ≡ map lowered_pair (pairs_of_list list)
pairs_of_list-lowered (blank n) = refl
pairs_of_list-lowered (final n p) = ap (λ pair. pair ∷ []) (pair_of-lowered p)
pairs_of_list-lowered (more n p rest) = cc (pair_of-lowered p, pairs_of_list-lowered rest)

-- The pairs of a lowercased tail are those of the tail, lowercased.
pub pairs_of_tail-lowered : (tail : Tail) → pairs_of_tail (lowered_tail tail) ≡ map lowered_pair (pairs_of_tail tail)
pairs_of_tail-lowered no_list = refl
pairs_of_tail-lowered (listed list) = pairs_of_list-lowered list

-- There are as many.
pub length-tail_lowered : (tail : Tail) → length (pairs_of_tail (lowered_tail tail)) ≡ length (pairs_of_tail tail)
length-tail_lowered tail = ap length (pairs_of_tail-lowered tail) ∙ length-map (pairs_of_tail tail) lowered_pair

-- Lowercasing moves no part.
pub positions_of-lowered_tree : (tree : SyntaxTree) → positions_of (lowered_tree tree) ≡ positions_of tree
positions_of-lowered_tree tree =
    let at = length tree.top + 1 + length tree.sub in
    let plus = last_plus-lowered (length tree.top + 2) (drop 1 tree.sub) in
    let semicolon = elim tree.tail as (λ tail. semicolon_of at (lowered_tail tail)
    ≡ semicolon_of at tail) [ no_list ↦ refl | listed list ↦ refl ] in
    rw (length-lowered tree.top, length-lowered tree.sub, ← lowered-drop 1 tree.sub) (cc (semicolon, length-tail_lowered tree.tail, plus))
