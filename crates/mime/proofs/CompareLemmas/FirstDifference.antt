-- Where two texts first differ ignoring ASCII case: a text stripped of spaces, tabs and quotes.
use Rattle.std.proofs.Common.{◌≡◌, ℕ, ◌+◌, ◌<◌, List, [], ◌∷◌, ◌++◌, take, drop, refl, sym, ap, ◌∙◌, arith, length, append-nil}
use Rattle.std.proofs.Common.{append_assoc, rules}
use Rattle.std.specs.Prelude.{IsTrue}
use Rattle.std.specs.{Char.to_ascii_lowercase, List.filter, List.slice_index, List.list_all}
use Rattle.std.proofs.lemmas.Bool.{and_parts, cond-true, cond-false}
use Rattle.std.proofs.lemmas.Bool.Decides.{nat_tests}
use Rattle.std.proofs.lemmas.List.{take-append-drop, drop_more}
use Rattle.std.proofs.lemmas.List.Elements.{filter-append}
use Rattle.mime.specs.Bytes.{semicolon_byte, equals_byte, quote_byte}
use Rattle.mime.specs.Grammar.{Parameter, plain, quoted, Parameters, blank, final, more, Tail, no_list, listed, text_of_tail, text_of_list}
use Rattle.mime.specs.Grammar.{text_of_parameter, is_space, AreSpaces, AreParameters, IsParameter, IsTail}
use Rattle.mime.specs.Values.{MediaType, Reads, lowered, lowered_parameter, lowered_list, lowered_tail, pair_of, pairs_of_list}
use Rattle.mime.specs.Values.{pairs_of_tail}
use Rattle.mime.specs.Comparison.{Same}
use Rattle.mime.specs.Difference.{reaches_value, DifferInValue}
use Rattle.mime.proofs.ValueLemmas.KeptText.{text_of-essence}
use Rattle.mime.proofs.LowercaseLemmas.{lowered-append, lowered-lowered}
use Rattle.mime.proofs.CompareLemmas.OtherCase.{lowered-lowered_value}
use Rattle.mime.proofs.CompareLemmas.Parts.{essence-lowered}
use Rattle.mime_search.proofs.IgnoringCase.{lowered-drop}

-- a text stripped: its bytes in lowercase, without spaces, tabs and quotes
abbrev stripped : List ℕ → List ℕ
stripped text = filter reaches_value (lowered text)

-- Joined texts are stripped one by one.
stripped-append : (xs ys : List ℕ) → stripped (xs ++ ys) ≡ stripped xs ++ stripped ys
stripped-append xs ys = ap (filter reaches_value) (lowered-append xs ys) ∙ filter-append reaches_value (lowered xs) (lowered ys)

-- Spaces leave nothing.
stripped-spaces : (n : List ℕ) → AreSpaces n → stripped n ≡ []
stripped-spaces [] white = refl
stripped-spaces (b ∷ n) white =
    let parts = and_parts (is_space b) (list_all is_space n) white in
    cond-false (reaches_value (to_ascii_lowercase b)) _ _ (grind (arith, nat_tests, parts.0)) ∙ stripped-spaces n parts.1

-- a value stripped: its essence and each pair, a semicolon after each
abbrev stripped_pair : List ℕ × List ℕ → List ℕ
stripped_pair (name, value) = stripped name ++ (equals_byte ∷ stripped value)

abbrev stripped_pairs : List (List ℕ × List ℕ) → List ℕ
stripped_pairs [] = []
stripped_pairs (pair ∷ pairs) = stripped_pair pair ++ (semicolon_byte ∷ stripped_pairs pairs)

abbrev stripped_value : MediaType → List ℕ
stripped_value value = stripped value.essence ++ (semicolon_byte ∷ stripped_pairs value.pairs)

-- the second list begins with the first
record Begins (prefix whole : List ℕ) : Type 0 where
  rest : List ℕ
  is : whole ≡ prefix ++ rest

-- A parameter is stripped to what its pair is.
stripped-parameter : (p : Parameter) → IsParameter p → stripped (text_of_parameter p) ≡ stripped_pair (pair_of (lowered_parameter p))
stripped-parameter (plain name value) well =
    stripped-append name (equals_byte ∷ value) ∙ rw (lowered-lowered name, lowered-lowered_value name value) refl
stripped-parameter (quoted name content n) well =
    stripped-append name (equals_byte ∷ quote_byte ∷ (content ++ (quote_byte ∷ n)))
    ∙ rw (stripped-append content (quote_byte ∷ n), stripped-spaces n well.2, lowered-lowered name, lowered-lowered_value name content)
    (simp append-nil)

-- A list is stripped to what its pairs are, except perhaps for the last semicolon.
stripped-list : (list : Parameters) → AreParameters list
    → Begins (stripped (text_of_list list)) (stripped_pairs (pairs_of_list (lowered_list list)))
stripped-list (blank n) white = record { rest = []; is = sym (append-nil (stripped n) ∙ stripped-spaces n white) }
stripped-list (final n p) (white, well) = record {
  rest = semicolon_byte ∷ [];
  is = sym (rw (stripped-append n (text_of_parameter p), stripped-spaces n white, stripped-parameter p well) refl);
}
stripped-list (more n p others) (white, well, follow) =
    let after = stripped-list others follow in
    let tail = semicolon_byte ∷ text_of_list others in
    record {
      rest = after.rest;
      is = rw (
        stripped-append n (text_of_parameter p ++ tail),
        stripped-spaces n white,
        stripped-append (text_of_parameter p) tail,
        stripped-parameter p well,
        after.is,
      ) (sym (append_assoc (stripped_pair (pair_of (lowered_parameter p))) (stripped tail) after.rest));
    }

-- A tail is stripped to what its pairs are.
stripped-tail : (tail : Tail) → IsTail tail
    → Begins (stripped (text_of_tail tail)) (semicolon_byte ∷ stripped_pairs (pairs_of_tail (lowered_tail tail)))
stripped-tail no_list well = record { rest = semicolon_byte ∷ []; is = refl }
stripped-tail (listed list) well = let parts = stripped-list list well in
    record { rest = parts.rest; is = ap (λ t. semicolon_byte ∷ t) parts.is }

-- A text is stripped to what the value is that it is read as.
stripped-reads : (text : List ℕ) (value : MediaType) → Reads text value → Begins (stripped text) (stripped_value value)
stripped-reads text value reads =
    search (stripped-append, stripped-tail, append_assoc, text_of-essence, lowered-lowered, essence-lowered, rules)

-- A stripped text, cut at a byte that stays.
stripped-at : (text : List ℕ) (n : ℕ) → n < length text → IsTrue (reaches_value (slice_index text n))
    → stripped text ≡ filter reaches_value (take n (lowered text))
    ++ (to_ascii_lowercase (slice_index text n) ∷ stripped (drop (n + 1) text))
stripped-at text n within reaches =
    let b = to_ascii_lowercase (slice_index text n) in
    let rest : drop n (lowered text) ≡ b ∷ lowered (drop (n + 1) text) = sym (lowered-drop n text)
    ∙ ap lowered (drop_more text n 0 within) in
    ap (filter reaches_value) (sym (take-append-drop n (lowered text)) ∙ ap (λ t. take n (lowered text) ++ t) rest)
    ∙ filter-append reaches_value (take n (lowered text)) (b ∷ lowered (drop (n + 1) text))
    ∙ ap (λ t. filter reaches_value (take n (lowered text)) ++ t) (cond-true (reaches_value b) _ _ (grind (arith, nat_tests, reaches)))

-- After the same prefix, texts that are the same have the same byte.
same_byte : (prefix : List ℕ) (x y : ℕ) (xs ys rest others : List ℕ)
    → (prefix ++ (x ∷ xs)) ++ rest ≡ (prefix ++ (y ∷ ys)) ++ others → x ≡ y
same_byte [] x y xs ys rest others is = cc
same_byte (f ∷ prefix) x y xs ys rest others is = same_byte prefix x y xs ys rest others cc

-- Texts whose first difference reaches the value are read as values that aren't equal.
pub different_values : (one other : List ℕ) (first second : MediaType) → Reads one first → Reads other second
    → DifferInValue one other → ¬ (Same first second)
different_values one other first second reads also d same =
    let begins = stripped-reads one first reads in
    let other_begins = stripped-reads other second also in
    let whole : stripped_value first ≡ stripped_value second = cc in
    let cut = stripped-at one d.at d.first.within d.reaches in
    let other_cut = rw (← d.first.equal_before) at (stripped-at other d.at d.first.within_other d.other_reaches) in
    let both = rw (cut, other_cut) at (sym begins.is ∙ whole ∙ other_begins.is) in
    d.first.differ (same_byte (filter reaches_value (take d.at (lowered one))) _ _ _ _ begins.rest other_begins.rest both)
