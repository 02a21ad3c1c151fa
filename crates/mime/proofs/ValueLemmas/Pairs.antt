-- What a cut of a list is, and where its quoted content ends.
use Rattle.std.proofs.lemmas.Grind.{common_steps}
use Rattle.std.proofs.lemmas.Str.{IsCharBoundary-start, IsCharBoundary-after_ascii}
use Rattle.std.proofs.lemmas.Bool.Decides.{nat_tests}
use Rattle.std.proofs.lemmas.List.Sums.{prefix_len_passes, prefix_len-le-length}
use Rattle.std.proofs.lemmas.List.{take_at, drop_at, drop-drop, take-append-drop}
use Rattle.std.proofs.lemmas.Bool.{and_parts, cases_Bool, cond-false, eqb-true, true≢false, cond_both}
use Rattle.std.proofs.Common.{⊎_elim, ◌≡◌, ◌≢◌, ℕ, zero, suc, ◌+◌, ◌<◌, ◌≤◌, Bool, true, false, List, [], ◌∷◌, ◌++◌, length, get_or, drop}
use Rattle.std.proofs.Common.{refl, sym, ap, ◌∙◌, arith, ◌-◌, take, subst, append-nil, append_assoc, length-append, rules}
use Rattle.std.specs.Prelude.{IsTrue, ◌==◌, ◌&&◌, not, Option}
use Rattle.std.specs.{List.position_or_len, Str.IsUtf8, Str.IsCharBoundary}
use Rattle.mime.specs.Bytes.{quote_byte, backslash_byte, equals_byte}
use Rattle.mime.specs.Grammar.{is_space}
use Rattle.mime.specs.Inner.Quoted.{awaits_next, takes, takes_all, awaits_after, len_from, content_len}
use Rattle.mime.specs.Values.{lowered, lowered_value}
use Rattle.mime.specs.Inner.Pairs.{PairCut, cut_after_equals, leading_spaces, without_spaces, cut_of, last_cut, cut_before, pairs_within}
use Rattle.mime.specs.Inner.Pairs.{lowered_first, lowered_within}
use Rattle.mime.specs.Items.{items_of, IsFirstAccepted}
use Rattle.mime_search.specs.Rests.{first_position, before_byte, after_byte}
use Rattle.mime.proofs.GrammarLemmas.Content.{taken-closes_not}
use Rattle.mime.proofs.LowercaseLemmas.{lowered_value-either}
use Rattle.mime.proofs.ValueLemmas.Utf8.{IsLoweredInPart, same, lowercase, in_parts}

-- ---- the spaces with which a list begins

-- The list may be cut after them.
pub spaces_border : (list : List ℕ) → IsUtf8 list → IsCharBoundary list (leading_spaces list)
spaces_border list utf8 = go (leading_spaces list) refl
  where
    go : (n : ℕ) → n ≡ leading_spaces list → IsCharBoundary list n
    go zero is = IsCharBoundary-start list utf8
    go (suc n) is =
        let space : is_space (get_or list n 0) ≡ true = prefix_len_passes is_space list n 0 (omega (arith, is)) in
        let after : IsCharBoundary list (n + 1) =
        IsCharBoundary-after_ascii list n utf8 (omega (arith, is, prefix_len-le-length is_space list)) (grind (arith, nat_tests, space)) in
        subst (IsCharBoundary list) (omega arith) after

-- ---- the length of content

-- The quote that closes is found.
pub len_from-run : (awaiting : Bool) (run after : List ℕ) → IsTrue (takes_all awaiting run) → awaits_after awaiting run ≡ false
    → len_from awaiting (run ++ quote_byte ∷ after) ≡ length run
len_from-run true [] after all done = absurd (true≢false done)
len_from-run false [] after all done = refl
len_from-run awaiting (b ∷ run) after all done =
    let parts = and_parts (takes awaiting b) (takes_all (awaits_next awaiting b) run) all in
    cond-false (not awaiting && b == quote_byte) _ _ (taken-closes_not awaiting b parts.0)
    ∙ omega (arith, len_from-run (awaits_next awaiting b) run after parts.1 done)

-- At the length of the content that a text begins with there is a quote, or the text ends.
pub quote_at_len : (awaiting : Bool) (text : List ℕ) → len_from awaiting text < length text
    → get_or text (len_from awaiting text) 0 ≡ quote_byte
quote_at_len awaiting [] within = absurd (omega arith)
quote_at_len awaiting (b ∷ text) within =
    cond_both (not awaiting && b == quote_byte) _ _ (λ n. n < length (b ∷ text) → get_or (b ∷ text) n 0 ≡ quote_byte)
    (λ closes _. eqb-true b quote_byte (and_parts (not awaiting) (b == quote_byte) closes).1)
    (λ on within. quote_at_len (awaits_next awaiting b) text (omega (arith, within))) within

-- It is no longer than its text.
pub len_from-le : (awaiting : Bool) (text : List ℕ) → len_from awaiting text ≤ length text
len_from-le awaiting [] = omega arith
len_from-le awaiting (b ∷ text) =
    cond_both (not awaiting && b == quote_byte) _ _ (λ n. n ≤ length (b ∷ text)) (λ closes. omega arith)
    (λ on. omega (arith, len_from-le (awaits_next awaiting b) text))

-- ---- the first quote

-- The first quote closes, if no byte is awaited at it: if no backslash precedes it.
first_quote : (awaiting : Bool) (text : List ℕ) (n : ℕ) → n ≡ position_or_len (λ b. b == quote_byte) text
    → (n ≡ 0 → awaiting ≡ false)
    → ((m : ℕ) → suc m ≡ n → get_or text m 0 ≢ backslash_byte) → len_from awaiting text ≡ n
first_quote awaiting [] n e free before = sym e
first_quote awaiting (b ∷ text) n e free before = ⊎_elim
    (λ (quote : b == quote_byte ≡ true). let none : n ≡ 0 = e ∙ rw quote refl in rw (free none, quote) (sym none))
    (λ (other : b == quote_byte ≡ false).
    let on : n ≡ 1 + position_or_len (λ b. b == quote_byte) text = e ∙ rw other refl in
    let rest = first_quote (awaits_next awaiting b) text (n - 1) (omega (arith, on))
    (λ none. let is_none = before 0 (omega (arith, none, on)) in search rules)
    (λ m same. before (suc m) (omega (arith, same))) in
    cond-false (not awaiting && b == quote_byte) _ _ (search rules) ∙ omega (arith, rest, on)) (cases_Bool (b == quote_byte))

-- Content ends at the first quote, if no backslash precedes it.
pub content_len-first_quote : (text : List ℕ) (n : ℕ) → n ≡ first_position quote_byte text
    → ((m : ℕ) → suc m ≡ n → get_or text m 0 ≢ backslash_byte) → n ≡ content_len text
content_len-first_quote text n e before = sym (first_quote false text n e (λ _. refl) before)

-- where the parts of a cut lie in a list
pub record LiesIn (list : List ℕ) (cut : PairCut) : Type 0 where
  pub prefix : List ℕ
  pub middle : List ℕ
  pub parts : list ≡ prefix ++ (cut.value ++ (middle ++ cut.rest))
  pub value_start : cut.value_start ≡ length prefix

-- a list ends with these bytes, and so with those after the first of them
abbrev pub EndsWith : List ℕ → List ℕ → Type 0
EndsWith list bytes = (prefix : List ℕ) × (prefix ++ bytes ≡ list)

-- What a list ends with ends with the bytes after the first of them.
pub ends-drop : (n : ℕ) (list bytes : List ℕ) → EndsWith list bytes → EndsWith list (drop n bytes)
ends-drop n list bytes (prefix, whole) = (
  prefix ++ take n bytes,
  append_assoc prefix (take n bytes) (drop n bytes) ∙ ap (λ x. prefix ++ x) (take-append-drop n bytes) ∙ whole,
)

-- A value that begins an end of the list lies in the list.
lies_from_end : (list bytes name rest : List ℕ) (k n : ℕ) → EndsWith list bytes → rest ≡ drop n (drop k bytes)
    → LiesIn list (record { name = name; value_start = length list - length bytes; value = take k bytes; rest = rest })
lies_from_end list bytes name rest k n (prefix, whole) after = record {
  prefix = prefix;
  middle = take n (drop k bytes);
  parts = sym (rw (after, take-append-drop n (drop k bytes), take-append-drop k bytes) whole);
  value_start = omega (arith, ap length whole, length-append prefix bytes);
}

-- The cut after the equals sign lies in the list.
cut_value-lies : (list name bytes : List ℕ) → EndsWith list bytes → LiesIn list (cut_after_equals (length list) name bytes)
cut_value-lies list name [] end = record { prefix = list; middle = []; parts = sym (append-nil list); value_start = refl }
cut_value-lies list name (b ∷ bytes) end =
    cond_both (b == quote_byte) _ _ (LiesIn list)
    (λ _. lies_from_end list bytes name _ (content_len bytes) _ (ends-drop 1 list (b ∷ bytes) end)
    (ap (drop _) (sym (drop-drop 1 (content_len bytes) bytes)) ∙ drop-drop _ 1 (drop (content_len bytes) bytes)))
    (λ _. lies_from_end list (b ∷ bytes) name _ _ 1 end (sym (drop-drop 1 _ (b ∷ bytes))))

-- A list ends with what follows its first equals sign.
pub ends_after_equals : (list : List ℕ) → EndsWith list (after_byte equals_byte (without_spaces list))
ends_after_equals list = ends-drop _ list (without_spaces list) (ends-drop (leading_spaces list) list list ([], refl))

-- The last pair lies in a list.
abbrev pub last_cut-lies : (list : List ℕ) → LiesIn list (last_cut list)
last_cut-lies list =
    let end = ends_after_equals list in
    record {
      prefix = end.0;
      middle = [];
      parts = sym (ap (λ x. end.0 ++ x) (append-nil (last_cut list).value) ∙ end.1);
      value_start = omega (arith, ap length end.1, length-append end.0 (last_cut list).value);
    }

-- The first pair before others lies in the list.
pub cut_before-lies : (others : ℕ) (list : List ℕ) → LiesIn list (cut_before others list)
unfolding cut_of
cut_before-lies zero list = last_cut-lies list
cut_before-lies (suc others) list = cut_value-lies list (before_byte equals_byte (without_spaces list)) _ (ends_after_equals list)

-- all before the rest, and the same with the first pair lowercased
abbrev before_rest : (list : List ℕ) (cut : PairCut) → LiesIn list cut → List ℕ
before_rest list cut lies = lies.prefix ++ (cut.value ++ lies.middle)

-- All before the rest, with the pair lowercased.
abbrev pub first_lowered : (list : List ℕ) (cut : PairCut) → LiesIn list cut → List ℕ
first_lowered list cut lies = lowered lies.prefix ++ (lowered_value cut.name cut.value ++ lies.middle)

-- A list with its first pair lowercased is that pair lowercased, and the rest.
pub lowered_first-joined : (list : List ℕ) (cut : PairCut) (lies : LiesIn list cut)
    → lowered_first cut list ≡ first_lowered list cut lies ++ cut.rest
lowered_first-joined list cut lies =
    let prefix : take cut.value_start list ≡ lies.prefix =
    rw (lies.value_start) (ap (take (length lies.prefix)) lies.parts ∙ take_at lies.prefix _ (length lies.prefix) refl) in
    let back : drop (cut.value_start + length cut.value) list ≡ lies.middle ++ cut.rest =
    ap (drop (cut.value_start + length cut.value)) (lies.parts ∙ sym (append_assoc lies.prefix cut.value (lies.middle ++ cut.rest)))
    ∙ drop_at (lies.prefix ++ cut.value) _ _ (omega (arith, lies.value_start, length-append lies.prefix cut.value)) in
    rw (prefix, back) (simp append_assoc)

-- Only capitals are made small.
first_lowered-in_part : (list : List ℕ) (cut : PairCut) (lies : LiesIn list cut)
    → IsLoweredInPart (before_rest list cut lies) (first_lowered list cut lies)
first_lowered-in_part list cut lies = search (lowered_value-either, same, lowercase, in_parts, rules)

-- A list with its first pairs lowercased has the first lowercased, and then the others.
pub lowered_within-first : (count : ℕ) (list : List ℕ) (lies : LiesIn list (cut_before count list))
    → let cut = cut_before count list in lowered_within (suc count) list ≡ first_lowered list cut lies ++ lowered_within count cut.rest
lowered_within-first count list lies =
    let cut = cut_before count list in
    let size = length list - length cut.rest in
    let whole : length (first_lowered list cut lies) + length cut.rest ≡ length list = grind (arith, common_steps) in
    ap (λ x. x ++ lowered_within count cut.rest)
    (ap (take size) (lowered_first-joined list cut lies) ∙ take_at (first_lowered list cut lies) cut.rest size (omega (arith, whole)))

-- The pairs of any list, lowercased, are the list with some parts lowercased.
pub lowered_within-in_part : (count : ℕ) (list : List ℕ) → IsLoweredInPart list (lowered_within count list)
lowered_within-in_part zero list = same list
lowered_within-in_part (suc count) list =
    let cut = cut_before count list in
    let lies = cut_before-lies count list in
    let whole : before_rest list cut lies ++ cut.rest ≡ list = sym (lies.parts ∙ simp append_assoc) in
    let parts = in_parts _ _ _ _ (first_lowered-in_part list cut lies) (lowered_within-in_part count cut.rest) in
    subst (λ x. IsLoweredInPart x (lowered_within (suc count) list)) whole
    (subst (IsLoweredInPart (before_rest list cut lies ++ cut.rest)) (sym (lowered_within-first count list lies)) parts)

-- ---- the pairs that are left, and what is looked up in them

-- The pairs are the first pair, and then the others.
pub pairs_within-first : (count : ℕ) (list : List ℕ) → count ≢ 0
    → pairs_within count list ≡ ((cut_of list).name, (cut_of list).value) ∷ pairs_within (count - 1) (cut_of list).rest
pairs_within-first count list some = search rules

-- A part of a cut by the name and what follows the equals sign is that of the whole cut.
pub cut_of-part : {X : Type 0} (part : PairCut → X) (list name back : List ℕ) (size : ℕ) (x : X) → size ≡ length list
    → name ≡ before_byte equals_byte (without_spaces list) → back ≡ after_byte equals_byte (without_spaces list)
    → x ≡ part (cut_after_equals size name back) → x ≡ part (cut_of list)
unfolding cut_of
cut_of-part part list name back size x size_is name_is back_is is = grind (arith, common_steps)

-- The cut of a list has the name before its first equals sign.
pub cut_of-name : (list name : List ℕ) → name ≡ before_byte equals_byte (without_spaces list) → name ≡ (cut_of list).name
unfolding cut_of
cut_of-name list name is = grind (arith, common_steps)

-- If the first name isn't accepted, what is found in a list is what is found in the rest.
pub found-next : (Accepts : List ℕ → Bool → Type 0) (count : ℕ) (list : List ℕ) (found : Option (List ℕ × Bool))
    → count ≢ 0
    → ¬ (Accepts (cut_of list).name true) → IsFirstAccepted Accepts (items_of (pairs_within (count - 1) (cut_of list).rest)) found
    → IsFirstAccepted Accepts (items_of (pairs_within count list)) found
found-next Accepts count list found some other rest = grind (arith, common_steps)
