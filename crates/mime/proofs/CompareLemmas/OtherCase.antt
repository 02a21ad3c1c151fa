-- Texts that are equal ignoring ASCII case are read as trees that are equal ignoring it: one is cut where the other is.
use Rattle.std.proofs.Common.{◌≡◌, ℕ, true, List, [], ◌∷◌, ◌++◌, length, take, drop, map, refl, sym, ap, ◌∙◌, subst, arith, rules}
use Rattle.std.specs.{Char.to_ascii_lowercase, List.list_all}
use Rattle.std.proofs.{lemmas.Bool.Decides.nat_tests, lemmas.List.take-append-drop, lemmas.Grind.common_steps}
use Rattle.mime.specs.Bytes.{slash_byte, semicolon_byte, equals_byte, quote_byte}
use Rattle.mime.specs.Grammar.{is_space, Parameter, plain, quoted, Parameters, blank, final, more, Tail, no_list, listed, SyntaxTree}
use Rattle.mime.specs.Grammar.{text_of, text_of_parameter, text_of_list, text_of_tail, AreSpaces, IsParameter, AreParameters, IsTail}
use Rattle.mime.specs.Grammar.{IsWellFormed}
use Rattle.mime.specs.Values.{MediaType, Reads, value_of, lowered, lowered_value, lowered_tail, is_charset, pair_of, pairs_of_list}
use Rattle.mime.specs.Values.{pairs_of_tail}
use Rattle.mime.specs.Comparison.{Same}
use Rattle.mime.specs.Inner.KeptText.{AreLowPairs, lowered_pair}
use Rattle.mime.specs.Inner.ComparedText.{IsLoneCharset}
use Rattle.mime.proofs.BytesLemmas.{cons_parts}
use Rattle.mime.proofs.GrammarLemmas.Content.{IsContent-case}
use Rattle.mime.proofs.LowercaseLemmas.{lowered-lowered, lowered_value-either, low_pair-parts, list_all-case, IsToken-case}
use Rattle.mime.proofs.LowercaseLemmas.{pairs_of_tail-lowered}
use Rattle.mime.proofs.ValueLemmas.Utf8.{lowered-parts, is_no_letter, stays}
use Rattle.mime.proofs.ValueLemmas.Parts.{read-low_pairs}

-- Lowercasing leaves spaces as they are.
AreSpaces-case : (bytes other : List ℕ) → lowered other ≡ lowered bytes → AreSpaces bytes → AreSpaces other
AreSpaces-case = list_all-case is_space (λ b. grind (arith, nat_tests))

-- a text that is another ignoring ASCII case is cut where the other is, around bytes that are no letters
pub record CaseCut (text prefix middle back : List ℕ) : Type 0 where
  pub first : List ℕ
  pub second : List ℕ
  pub whole : first ++ (middle ++ second) ≡ text
  pub first_is : lowered first ≡ lowered prefix
  pub second_is : lowered second ≡ lowered back

-- A text that is three joined texts ignoring ASCII case is cut around the middle one, which has no letter.
pub case_cut : (text prefix middle back : List ℕ) → list_all is_no_letter middle ≡ true
    → lowered text ≡ lowered (prefix ++ (middle ++ back)) → CaseCut text prefix middle back
case_cut text prefix middle back none is =
    let rest = drop (length prefix) text in
    let first = take (length prefix) text in
    let parts = lowered-parts prefix (middle ++ back) text is in
    let after = lowered-parts middle back rest parts.1 in
    record {
      first = first;
      second = drop (length middle) rest;
      whole = ap (λ m. first ++ (m ++ drop (length middle) rest)) (sym (stays middle (take (length middle) rest) none after.0))
          ∙ ap (λ r. first ++ r) (take-append-drop (length middle) rest) ∙ take-append-drop (length prefix) text;
      first_is = parts.0;
      second_is = after.1;
    }

-- a pair in lowercase
abbrev lowercase_pair : List ℕ × List ℕ → List ℕ × List ℕ
lowercase_pair (name, value) = (lowered name, lowered value)

-- what a text is that is another ignoring ASCII case: well formed, and seen as the other
record Case {T V : Type 0} (IsWell : T → Type 0) (text_of_it : T → List ℕ) (seen : T → V) (text : List ℕ) (one : T) : Type 0 where
  other : T
  well_formed : IsWell other
  spelled : text_of_it other ≡ text
  same : seen other ≡ seen one

-- A text that is a parameter's in another case is that of a parameter with the same lowercased pair.
case_parameter : (text : List ℕ) (p : Parameter) → IsParameter p → lowered text ≡ lowered (text_of_parameter p)
    → Case IsParameter text_of_parameter (λ q. lowercase_pair (pair_of q)) text p
case_parameter text (plain name value) (named, token) is =
    let cut = case_cut text name (equals_byte ∷ []) value refl is in
    record {
      other = plain cut.first cut.second;
      well_formed = (IsToken-case name cut.first cut.first_is named, IsToken-case value cut.second cut.second_is token);
      spelled = cut.whole;
      same = λ i. (cut.first_is i, cut.second_is i);
    }
case_parameter text (quoted name content n) (named, is, white) same =
    let cut = case_cut text name (equals_byte ∷ quote_byte ∷ []) (content ++ (quote_byte ∷ n)) refl same in
    let inner = case_cut cut.second content (quote_byte ∷ []) n refl cut.second_is in
    record {
      other = quoted cut.first inner.first inner.second;
      well_formed = (IsToken-case _ _ cut.first_is named, IsContent-case _ _ inner.first_is is, AreSpaces-case _ _ inner.second_is white);
      spelled = ap (λ t. cut.first ++ (equals_byte ∷ quote_byte ∷ t)) inner.whole ∙ cut.whole;
      same = λ i. (cut.first_is i, inner.first_is i);
    }

-- A text that is a list's in another case is that of a list with the same lowercased pairs.
case_list : (text : List ℕ) (list : Parameters) → AreParameters list → lowered text ≡ lowered (text_of_list list)
    → Case AreParameters text_of_list (λ l. map lowercase_pair (pairs_of_list l)) text list
case_list text (blank n) white is = record { other = blank text; well_formed = AreSpaces-case n text is white; spelled = refl; same = refl }
case_list text (final n p) (white, well) is =
    let cut = case_cut text n [] (text_of_parameter p) refl is in
    let found = case_parameter cut.second p well cut.second_is in
    record {
      other = final cut.first found.other;
      well_formed = (AreSpaces-case _ _ cut.first_is white, found.well_formed);
      spelled = rw found.spelled cut.whole;
      same = ap (λ pair. pair ∷ []) found.same;
    }
case_list text (more n p rest) (white, well, others) is =
    let cut = case_cut text n [] (text_of_parameter p ++ (semicolon_byte ∷ text_of_list rest)) refl is in
    let inner = case_cut cut.second (text_of_parameter p) (semicolon_byte ∷ []) (text_of_list rest) refl cut.second_is in
    let found = case_parameter inner.first p well inner.first_is in
    let follow = case_list inner.second rest others inner.second_is in
    record {
      other = more cut.first found.other follow.other;
      well_formed = (AreSpaces-case _ _ cut.first_is white, found.well_formed, follow.well_formed);
      spelled = rw (found.spelled, follow.spelled, inner.whole) cut.whole;
      same = λ i. found.same i ∷ follow.same i;
    }

-- A text that is a tail's in another case is that of a tail with the same lowercased pairs.
case_tail : (text : List ℕ) (tail : Tail) → IsTail tail → lowered text ≡ lowered (text_of_tail tail)
    → Case IsTail text_of_tail (λ t. map lowercase_pair (pairs_of_tail t)) text tail
case_tail [] no_list well is = record { other = no_list; well_formed = tt; spelled = refl; same = refl }
case_tail (c ∷ text) no_list well is = absurd cc
case_tail [] (listed list) well is = absurd cc
case_tail (c ∷ text) (listed list) well is =
    let lowers : to_ascii_lowercase c ≡ semicolon_byte = cc in
    let byte : c ≡ semicolon_byte = grind (arith, nat_tests) in
    let found = case_list text list well cc in
    record { other = listed found.other; well_formed = found.well_formed; spelled = cc (byte, found.spelled); same = found.same }

-- a tree, seen by its type, its subtype and its pairs
abbrev lowercase_parts : SyntaxTree → List ℕ × List ℕ × List (List ℕ × List ℕ)
lowercase_parts tree = (lowered tree.top, lowered tree.sub, map lowercase_pair (pairs_of_tail tree.tail))

-- A text that is a tree's text ignoring ASCII case has a tree of its own, with the same parts in lowercase.
case_tree : (text : List ℕ) (tree : SyntaxTree) → IsWellFormed tree → lowered text ≡ lowered (text_of tree)
    → Case IsWellFormed text_of lowercase_parts text tree
case_tree text tree well is =
    let cut = case_cut text tree.top (slash_byte ∷ []) (tree.sub ++ text_of_tail tree.tail) refl is in
    let inner = case_cut cut.second tree.sub [] (text_of_tail tree.tail) refl cut.second_is in
    let found = case_tail inner.second tree.tail well.2 inner.second_is in
    record {
      other = record { top = cut.first; sub = inner.first; tail = found.other };
      well_formed = (IsToken-case _ _ cut.first_is well.0, IsToken-case _ _ inner.first_is well.1, found.well_formed);
      spelled = rw (found.spelled, inner.whole) cut.whole;
      same = λ i. (cut.first_is i, inner.first_is i, found.same i);
    }

-- ---- values

-- A value as it is kept, lowercased, is the value lowercased.
pub lowered-lowered_value : (name value : List ℕ) → lowered (lowered_value name value) ≡ lowered value
lowered-lowered_value name value = lowered_value-either (λ v. lowered v ≡ lowered value) name value refl (lowered-lowered value)

-- Pairs as they are kept, in lowercase, are the pairs in lowercase.
pairs-lowercase : (pairs : List (List ℕ × List ℕ)) → map lowercase_pair (map lowered_pair pairs) ≡ map lowercase_pair pairs
pairs-lowercase [] = refl
pairs-lowercase ((name, value) ∷ pairs) = cc (lowered-lowered name, lowered-lowered_value name value, pairs-lowercase pairs)

-- The pairs of a lowercased tail are, in lowercase, those of the tail.
pairs-lowercase_tail : (tail : Tail) → map lowercase_pair (pairs_of_tail (lowered_tail tail)) ≡ map lowercase_pair (pairs_of_tail tail)
pairs-lowercase_tail tail = ap (map lowercase_pair) (pairs_of_tail-lowered tail) ∙ pairs-lowercase (pairs_of_tail tail)

-- a text that is read as a value ignoring ASCII case: its own value has the same essence, and the same pairs ignoring ASCII case
pub record CaseRead (text : List ℕ) (value : MediaType) : Type 0 where
  pub read : MediaType
  pub reads : Reads text read
  pub essence : value.essence ≡ read.essence
  pub pairs : map lowercase_pair value.pairs ≡ map lowercase_pair read.pairs

-- A text that is a value's kept text ignoring ASCII case is read as a value.
pub case_read : (text kept : List ℕ) (value : MediaType) → Reads kept value → lowered text ≡ lowered kept → CaseRead text value
case_read text kept value reads is =
    let found = case_tree text reads.tree reads.well_formed (is ∙ ap lowered (sym reads.spelled)) in
    record {
      read = value_of found.other;
      reads = record { tree = found.other; well_formed = found.well_formed; spelled = found.spelled; valued = refl };
      essence =
          ap (λ (v : MediaType). v.essence) (sym reads.valued) ∙ ap (λ parts. parts.0 ++ (slash_byte ∷ parts.1)) (sym found.same);
      pairs = ap (λ (v : MediaType). map lowercase_pair v.pairs) (sym reads.valued)
          ∙ pairs-lowercase_tail reads.tree.tail ∙ ap (λ parts. parts.2) (sym found.same)
          ∙ sym (pairs-lowercase_tail found.other.tail);
    }

-- A value has as many pairs as what a text that is its own ignoring ASCII case is read as.
pub case_read-count : (text : List ℕ) (value : MediaType) (is : CaseRead text value) → length value.pairs ≡ length is.read.pairs
case_read-count text value is = grind (arith, common_steps)

-- Two charsets as they are kept are the same if they are the same ignoring ASCII case.
lone_charset-same : (pairs others : List (List ℕ × List ℕ)) → IsLoneCharset pairs → AreLowPairs pairs → AreLowPairs others
    → map lowercase_pair pairs ≡ map lowercase_pair others → pairs ≡ others
lone_charset-same pairs others (name, content, lone, charset) low also same =
    lone ∙ go others (subst AreLowPairs lone low) also (sym (ap (map lowercase_pair) lone) ∙ same)
  where
    go : (others : List (List ℕ × List ℕ)) → AreLowPairs ((name, content) ∷ []) → AreLowPairs others
        → map lowercase_pair ((name, content) ∷ []) ≡ map lowercase_pair others → (name, content) ∷ [] ≡ others
    go [] low also same = absurd cc
    go (other ∷ (one ∷ others)) low also same = absurd cc
    go (other ∷ []) low also same =
        let pair = (cons_parts same).0 in
        let first = low_pair-parts name content low.0 in
        let second = low_pair-parts other.0 other.1 also.0 in
        let names : name ≡ other.0 = sym first.0 ∙ ap (λ p. p.0) pair ∙ second.0 in
        let contents : content ≡ other.1 =
        sym (first.1 charset) ∙ ap (λ p. p.1) pair ∙ second.1 (subst (λ n. is_charset n ≡ true) names charset) in
        λ i. (names i, contents i) ∷ []

-- A text that is read as a value with a lone charset, ignoring ASCII case, is read as one equal to it.
pub case_read-lone_charset : (text kept : List ℕ) (value : MediaType) (is : CaseRead text value) → Reads kept value
    → IsLoneCharset value.pairs → Same value is.read
case_read-lone_charset text kept value is reads lone = search (lone_charset-same, read-low_pairs, rules)
