-- The pairs cut from the text of a well-formed parameter list are its pairs, and lowercasing them lowercases the list.
use Rattle.std.proofs.lemmas.Grind.{common_steps}
use Rattle.std.proofs.lemmas.Bool.{and_parts, cond-true, cond-false}
use Rattle.std.proofs.lemmas.Bool.Decides.{nat_tests}
use Rattle.std.proofs.lemmas.List.{take_at, drop_at, drop-drop, take-append-drop}
use Rattle.std.proofs.Common.{rules, ◌≡◌, ℕ, zero, suc, ◌+◌, ◌-◌, Bool, true, false, List, [], ◌∷◌, ◌++◌, length, take, drop, refl, sym, ap}
use Rattle.std.proofs.Common.{◌∙◌, subst, arith, append-nil, append_assoc}
use Rattle.std.specs.Prelude.{◌==◌}
use Rattle.std.specs.{List.list_all, List.prefix_len, Char.to_ascii_lowercase}
use Rattle.mime.specs.Bytes.{is_token_byte, semicolon_byte, equals_byte, quote_byte}
use Rattle.mime.specs.Grammar.{Parameter, plain, quoted, Parameters, blank, final, more, text_of_list, text_of_parameter, is_space}
use Rattle.mime.specs.Grammar.{AreSpaces, AreTokenBytes, IsToken, IsContent, AreParameters, IsParameter}
use Rattle.mime.specs.Values.{lowered, lowered_value, is_charset, lowered_parameter, lowered_list, pair_of, pairs_of_list}
use Rattle.mime.specs.Inner.Quoted.{content_len, content_of, after_content}
use Rattle.mime.specs.Inner.Pairs.{PairCut, cut_after_equals, leading_spaces, without_spaces, cut_of, last_cut, pairs_within}
use Rattle.mime.specs.Inner.Pairs.{lowered_within}
use Rattle.mime.specs.Inner.ComparedText.{IsLoneCharset}
use Rattle.mime.specs.Inner.KeptText.{with_pairs_lowered}
use Rattle.mime_search.specs.Rests.{before_byte, after_byte}
use Rattle.mime.proofs.GrammarLemmas.Content.{content-taken, content-awaits}
use Rattle.mime.proofs.ValueLemmas.Pairs.{len_from-run, last_cut-lies, cut_of-name, lowered_within-first}
use Rattle.mime.proofs.BytesLemmas.{semicolon_is_no_token, quote_is_no_token, token_byte-not_space, is_other, are_other-token, are_other}
use Rattle.mime.proofs.BytesLemmas.{AreTokenBytes-from_token}
use Rattle.mime.proofs.LowercaseLemmas.{lowered-append}

-- what may follow a run: nothing, or the byte and the rest
pub data IsFollow (byte : ℕ) : List ℕ → List ℕ → Type 0 where
  nothing : IsFollow byte [] []
  ended : (rest : List ℕ) → IsFollow byte (byte ∷ rest) rest

-- A run of a class ends at the first byte outside it.
run_to : (class : ℕ → Bool) (run : List ℕ) (b : ℕ) (after : List ℕ) → list_all class run ≡ true → class b ≡ false
    → prefix_len class (run ++ b ∷ after) ≡ length run
run_to class [] b after all out = cond-false (class b) _ 0 out
run_to class (x ∷ run) b after all out =
    let parts = and_parts (class x) (list_all class run) all in
    cond-true (class x) _ 0 parts.0 ∙ omega (arith, run_to class run b after parts.1 out)

-- The search for a byte passes a run without it, up to the byte or to the end.
position_to : (byte : ℕ) (run follow rest : List ℕ) → list_all (is_other byte) run ≡ true → IsFollow byte follow rest
    → prefix_len (is_other byte) (run ++ follow) ≡ length run
position_to byte run follow rest all (ended _) = run_to (is_other byte) run byte rest all (grind (arith, nat_tests))
position_to byte [] follow rest all nothing = refl
position_to byte (x ∷ run) follow rest all nothing =
    let parts = and_parts (is_other byte x) (list_all (is_other byte) run) all in
    cond-true (is_other byte x) _ 0 parts.0 ∙ omega (arith, position_to byte run [] [] parts.1 nothing)

-- The text before a byte is the run that has no such byte.
pub before_byte-run : (byte : ℕ) (run follow rest : List ℕ) → list_all (is_other byte) run ≡ true → IsFollow byte follow rest
    → before_byte byte (run ++ follow) ≡ run
before_byte-run byte run follow rest all follows = take_at run follow _ (omega (arith, position_to byte run follow rest all follows))

-- What is left after a run and a byte.
pub drop_past : (byte : ℕ) (run follow rest : List ℕ) (n : ℕ) → IsFollow byte follow rest → length run ≡ n
    → drop (n + 1) (run ++ follow) ≡ rest
drop_past byte run follow rest n follows long =
    sym (drop-drop 1 n (run ++ follow)) ∙ ap (drop 1) (drop_at run follow n long) ∙ past follow rest follows
  where
    past : (follow rest : List ℕ) → IsFollow byte follow rest → drop 1 follow ≡ rest
    past follow rest follows = search rules

-- The text after a byte is what follows the run and the byte.
pub after_byte-run : (byte : ℕ) (run follow rest : List ℕ) → list_all (is_other byte) run ≡ true → IsFollow byte follow rest
    → after_byte byte (run ++ follow) ≡ rest
after_byte-run byte run follow rest all follows =
    drop_past byte run follow rest _ follows (omega (arith, position_to byte run follow rest all follows))

-- A plain value is cut up to the semicolon or the end.
cut_value-plain : (whole : ℕ) (name value follow rest : List ℕ) → AreTokenBytes value → IsFollow semicolon_byte follow rest
    → cut_after_equals whole name (value ++ follow)
    ≡ record { name = name; value_start = whole - length (value ++ follow); value = value; rest = rest }
cut_value-plain whole name [] follow rest all nothing =
    ap (λ n. record { name = name; value_start = n; value = []; rest = [] }) (omega arith)
cut_value-plain whole name [] follow rest all (ended _) = refl
cut_value-plain whole name (v ∷ value) follow rest all follows =
    let first = and_parts (is_token_byte v) (list_all is_token_byte value) all in
    let others = are_other-token semicolon_byte semicolon_is_no_token (v ∷ value) all in
    cond-false (v == quote_byte) _ _ (grind (arith, nat_tests, first.0, quote_is_no_token, ap is_token_byte {x = v} {y = quote_byte}))
    ∙ cc (
      before_byte-run semicolon_byte (v ∷ value) follow rest others follows,
      after_byte-run semicolon_byte (v ∷ value) follow rest others follows,
    )

-- A quoted value is cut up to its closing quote.
cut_value-quoted : (whole : ℕ) (name content n follow rest : List ℕ) → IsContent content → AreSpaces n
    → IsFollow semicolon_byte follow rest → cut_after_equals whole name (quote_byte ∷ (content ++ (quote_byte ∷ (n ++ follow))))
    ≡ record { name = name; value_start = whole - length (content ++ (quote_byte ∷ (n ++ follow))); value = content; rest = rest }
cut_value-quoted whole name content n follow rest is white follows =
    let bytes : List ℕ = content ++ (quote_byte ∷ (n ++ follow)) in
    let position = len_from-run false content (n ++ follow) (content-taken content is) (content-awaits content is) in
    let value : content_of bytes ≡ content = take_at content (quote_byte ∷ (n ++ follow)) (content_len bytes) (sym position) in
    let after_quote : after_content bytes ≡ n ++ follow = drop_past quote_byte content _ _ (content_len bytes) (ended _) (sym position) in
    let after : after_byte semicolon_byte (after_content bytes) ≡ rest =
    ap (after_byte semicolon_byte) after_quote
    ∙ after_byte-run semicolon_byte n follow rest (are_other is_space semicolon_byte refl n white) follows in
    cc

-- The spaces before a name are cut off.
without_spaces-token : (n name after : List ℕ) → AreSpaces n → IsToken name
    → without_spaces (n ++ (name ++ after)) ≡ name ++ after
without_spaces-token n [] after white is = absurd cc
without_spaces-token n (b ∷ name) after white is =
    let first = and_parts (is_token_byte b) (list_all is_token_byte name) is in
    drop_at n (b ∷ name ++ after) (leading_spaces (n ++ (b ∷ name ++ after)))
    (sym (run_to is_space n b (name ++ after) white (token_byte-not_space b first.0)))

-- A name is cut from the spaces before it up to the equals sign, and what follows that is left.
name-cut : (n name after : List ℕ) → AreSpaces n → IsToken name → let body =
    without_spaces (n ++ (name ++ (equals_byte ∷ after))) in
    (before_byte equals_byte body ≡ name) × (after_byte equals_byte body ≡ after)
unfolding is_token_byte
name-cut n name after white is =
    let others = are_other-token equals_byte refl name (AreTokenBytes-from_token name is) in
    rw (without_spaces-token n name (equals_byte ∷ after) white is) (
      before_byte-run equals_byte name (equals_byte ∷ after) after others (ended after),
      after_byte-run equals_byte name (equals_byte ∷ after) after others (ended after),
    )

-- The first pair is cut with that name from what follows it.
cut_of-named : (n name after : List ℕ) → AreSpaces n → IsToken name
    → cut_of (n ++ (name ++ (equals_byte ∷ after))) ≡ cut_after_equals (length (n ++ (name ++ (equals_byte ∷ after)))) name after
unfolding cut_of
cut_of-named n name after white is = let cut = name-cut n name after white is in rw (cut.0, cut.1)

-- the text before the value of a parameter
abbrev head_of : Parameter → List ℕ
head_of (plain name value) = name ++ (equals_byte ∷ [])
head_of (quoted name content n) = name ++ (equals_byte ∷ quote_byte ∷ [])

-- the text after it
abbrev end_of : Parameter → List ℕ
end_of (plain name value) = []
end_of (quoted name content n) = quote_byte ∷ n

-- A parameter's text consists of its head, its value and its end.
text_of_parameter-parts : (p : Parameter) (after : List ℕ)
    → text_of_parameter p ++ after ≡ head_of p ++ ((pair_of p).1 ++ (end_of p ++ after))
text_of_parameter-parts p after = grind (arith, common_steps)

-- A value begins at this position, counted from the list's end.
head_counted : (n name opening after : List ℕ)
    → length (n ++ (name ++ (opening ++ after))) - length after ≡ length (n ++ (name ++ opening))
head_counted n name opening after = grind (arith, common_steps)

-- The first pair cut from the text of a parameter and what follows it.
cut_of-parameter : (n : List ℕ) (p : Parameter) (follow rest : List ℕ) → AreSpaces n → IsParameter p
    → IsFollow semicolon_byte follow rest → cut_of (n ++ (text_of_parameter p ++ follow))
    ≡ record { name = (pair_of p).0; value_start = length (n ++ head_of p); value = (pair_of p).1; rest = rest }
cut_of-parameter n (plain name value) follow rest white (named, token) follows =
    ap (λ x. cut_of (n ++ x)) (append_assoc name (equals_byte ∷ value) follow) ∙ cut_of-named n name (value ++ follow) white named
    ∙ cut_value-plain _ name value follow rest (AreTokenBytes-from_token value token) follows
    ∙ ap (λ h. record { name = name; value_start = h; value = value; rest = rest })
    (head_counted n name (equals_byte ∷ []) (value ++ follow))
cut_of-parameter n (quoted name content m) follow rest white (named, is, blanks) follows =
    let after = content ++ (quote_byte ∷ (m ++ follow)) in
    let grouped : text_of_parameter (quoted name content m) ++ follow ≡ name ++ (equals_byte ∷ quote_byte ∷ after) =
    simp append_assoc in
    ap (λ x. cut_of (n ++ x)) grouped ∙ cut_of-named n name (quote_byte ∷ after) white named
    ∙ cut_value-quoted _ name content m follow rest is blanks follows
    ∙ ap (λ h. record { name = name; value_start = h; value = content; rest = rest })
    (head_counted n name (equals_byte ∷ quote_byte ∷ []) after)

-- The pairs of a parameter list's text are the list's.
pub pairs_within-text_of_list : (list : Parameters) → AreParameters list
    → pairs_within (length (pairs_of_list list)) (text_of_list list) ≡ pairs_of_list list
pairs_within-text_of_list (blank n) well = refl
pairs_within-text_of_list (final n p) (white, well) =
    ap (λ x. pairs_within 1 (n ++ x)) (sym (append-nil (text_of_parameter p)))
    ∙ ap (λ (cut : PairCut). (cut.name, cut.value) ∷ []) (cut_of-parameter n p [] [] white well nothing)
pairs_within-text_of_list (more n p rest) (white, well, others) =
    ap (λ (cut : PairCut). (cut.name, cut.value) ∷ pairs_within (length (pairs_of_list rest)) cut.rest)
    (cut_of-parameter n p _ (text_of_list rest) white well (ended _))
    ∙ ap (λ pairs. pair_of p ∷ pairs) (pairs_within-text_of_list rest others)

-- Spaces are in lowercase already.
lowered-spaces : (bytes : List ℕ) → AreSpaces bytes → lowered bytes ≡ bytes
lowered-spaces [] white = refl
lowered-spaces (b ∷ bytes) white =
    let parts = and_parts (is_space b) (list_all is_space bytes) white in
    let same : to_ascii_lowercase b ≡ b = grind (arith, nat_tests, parts.0) in
    cc (same, lowered-spaces bytes parts.1)

-- A lowercased parameter's text consists of the same parts, lowercased.
lowered_parameter-parts : (p : Parameter) (after : List ℕ)
    → lowered (head_of p) ++ (lowered_value (pair_of p).0 (pair_of p).1 ++ (end_of p ++ after))
    ≡ text_of_parameter (lowered_parameter p) ++ after
lowered_parameter-parts p after = grind (arith, common_steps)

-- A list is lowercased pair by pair: its first parameter, and then the rest.
lowered_within-parameter : (count : ℕ) (n : List ℕ) (p : Parameter) (rest : List ℕ) → AreSpaces n → IsParameter p
    → lowered_within (suc (suc count)) (n ++ (text_of_parameter p ++ (semicolon_byte ∷ rest)))
    ≡ n ++ (text_of_parameter (lowered_parameter p) ++ (semicolon_byte ∷ lowered_within (suc count) rest))
lowered_within-parameter count n p rest white well =
    let follow = semicolon_byte ∷ rest in
    let list = n ++ (text_of_parameter p ++ follow) in
    let cut = cut_of-parameter n p follow rest white well (ended rest) in
    let parts : list ≡ (n ++ head_of p) ++ ((pair_of p).1 ++ ((end_of p ++ (semicolon_byte ∷ [])) ++ rest)) =
    ap (λ x. n ++ x) (text_of_parameter-parts p follow) ∙ simp append_assoc in
    lowered_within-first (suc count) list (record {
      prefix = n ++ head_of p;
      middle = end_of p ++ (semicolon_byte ∷ []);
      parts = subst (λ (c : PairCut). list ≡ (n ++ head_of p) ++ (c.value ++ ((end_of p ++ (semicolon_byte ∷ [])) ++ c.rest)))
          (sym cut) parts;
      value_start = ap (λ (c : PairCut). c.value_start) cut;
    }) ∙ ap (λ (c : PairCut). (lowered (n ++ head_of p) ++ (lowered_value c.name c.value ++ (end_of p ++ (semicolon_byte ∷ []))))
    ++ lowered_within (suc count) c.rest) cut ∙ rw (lowered-append n (head_of p), lowered-spaces n white) (simp append_assoc)
    ∙ ap (λ x. n ++ x) (lowered_parameter-parts p (semicolon_byte ∷ lowered_within (suc count) rest))

-- Under any name, lowercasing changes nothing around a value.
lowered_value-around : (name prefix value back : List ℕ) → lowered prefix ≡ prefix → lowered back ≡ back
    → lowered_value name (prefix ++ (value ++ back)) ≡ prefix ++ (lowered_value name value ++ back)
lowered_value-around name prefix value back before after = grind (arith, common_steps)

-- The last pair is lowercased up to the equals sign after its name, and what follows it is under `charset`.
lowered_last-named : (n name after : List ℕ) → AreSpaces n → IsToken name
    → lowered_within 1 (n ++ (name ++ (equals_byte ∷ after))) ≡ n ++ (lowered name ++ (equals_byte ∷ lowered_value name after))
lowered_last-named n name after white is =
    let head = n ++ (name ++ (equals_byte ∷ [])) in
    let list = n ++ (name ++ (equals_byte ∷ after)) in
    let names = name-cut n name after white is in
    let cut : last_cut list ≡ record { name = name; value_start = length head; value = after; rest = [] } =
    rw (names.0, names.1) (ap (λ h. record { name = name; value_start = h; value = after; rest = [] })
    (head_counted n name (equals_byte ∷ []) after)) in
    let parts : list ≡ head ++ (after ++ []) = rw (append-nil after) (simp append_assoc) in
    lowered_within-first 0 list (record {
      prefix = head;
      middle = [];
      parts = subst (λ (c : PairCut). list ≡ head ++ (c.value ++ c.rest)) (sym cut) parts;
      value_start = ap (λ (c : PairCut). c.value_start) cut;
    }) ∙ ap (λ (c : PairCut). (lowered head ++ (lowered_value c.name c.value ++ [])) ++ c.rest) cut ∙ rw (
      append-nil (lowered head ++ (lowered_value name after ++ [])),
      append-nil (lowered_value name after),
      lowered-append n (name ++ (equals_byte ∷ [])),
      lowered-append name (equals_byte ∷ []),
      lowered-spaces n white,
    ) (simp append_assoc)

-- The last parameter is lowercased, and nothing after it.
lowered_last-parameter : (n : List ℕ) (p : Parameter) (back : List ℕ) → AreSpaces n → IsParameter p → lowered back ≡ back
    → lowered_within 1 (n ++ (text_of_parameter p ++ back)) ≡ n ++ (text_of_parameter (lowered_parameter p) ++ back)
lowered_last-parameter n (plain name value) back white (named, token) low =
    ap (λ x. lowered_within 1 (n ++ x)) (append_assoc name (equals_byte ∷ value) back)
    ∙ lowered_last-named n name (value ++ back) white named ∙ rw (lowered_value-around name [] value back refl low) (simp append_assoc)
lowered_last-parameter n (quoted name content m) back white (named, is, blanks) low =
    let after = quote_byte ∷ (m ++ back) in
    let grouped : text_of_parameter (quoted name content m) ++ back ≡ name ++ (equals_byte ∷ quote_byte ∷ (content ++ after)) =
    simp append_assoc in
    ap (λ x. lowered_within 1 (n ++ x)) grouped ∙ lowered_last-named n name (quote_byte ∷ (content ++ after)) white named
    ∙ rw (lowered_value-around name (quote_byte ∷ []) content after refl
    (rw (lowered-append m back, lowered-spaces m blanks, low) refl)) (simp append_assoc)

-- The text of a parameter list, lowercased pair by pair, is the text of the lowercased list.
pub lowered_within-text_of_list : (list : Parameters) → AreParameters list
    → lowered_within (length (pairs_of_list list)) (text_of_list list) ≡ text_of_list (lowered_list list)
lowered_within-text_of_list (blank n) well = refl
lowered_within-text_of_list (final n p) (white, well) =
    ap (λ x. lowered_within 1 (n ++ x)) (sym (append-nil (text_of_parameter p))) ∙ lowered_last-parameter n p [] white well refl
    ∙ ap (λ x. n ++ x) (append-nil (text_of_parameter (lowered_parameter p)))
lowered_within-text_of_list (more n p (blank m)) (white, well, blanks) =
    lowered_last-parameter n p (semicolon_byte ∷ m) white well (ap (λ x. semicolon_byte ∷ x) (lowered-spaces m blanks))
lowered_within-text_of_list (more n p (final m q)) (white, well, others) =
    lowered_within-parameter 0 n p (text_of_list (final m q)) white well
    ∙ ap (λ x. n ++ (text_of_parameter (lowered_parameter p) ++ (semicolon_byte ∷ x))) (lowered_within-text_of_list (final m q) others)
lowered_within-text_of_list (more n p (more m q rest)) (white, well, others) =
    lowered_within-parameter _ n p (text_of_list (more m q rest)) white well
    ∙ ap (λ x. n ++ (text_of_parameter (lowered_parameter p) ++ (semicolon_byte ∷ x)))
    (lowered_within-text_of_list (more m q rest) others)

-- A list whose only pair is a charset is lowercased as a whole.
lone_charset-lowered : (count : ℕ) (list : List ℕ) → IsLoneCharset (pairs_within count list)
    → lowered list ≡ lowered_within count list
lone_charset-lowered (suc zero) list (name, content, only, is) =
    let cut = last_cut list in
    let lies = last_cut-lies list in
    let first = ap (λ pairs. elim pairs as (λ _. List ℕ) [ [] ↦ [] | pair ∷ others ↦ pair.0 ]) only in
    let named : is_charset cut.name ≡ true = subst (λ it. is_charset it ≡ true) (sym (cut_of-name list cut.name refl ∙ first)) is in
    let low : lowered_value cut.name cut.value ≡ lowered cut.value = rw named refl in
    ap lowered (lies.parts ∙ ap (λ x. lies.prefix ++ x) (append-nil cut.value)) ∙ lowered-append lies.prefix cut.value
    ∙ sym (lowered_within-first 0 list lies ∙ append-nil (lowered lies.prefix ++ (lowered_value cut.name cut.value ++ []))
    ∙ ap (λ x. lowered lies.prefix ++ x) (append-nil (lowered_value cut.name cut.value) ∙ low))
lone_charset-lowered count list (name, content, only, is) = absurd cc

-- A text that such a list ends is lowercased as a whole.
pub lone_charset-text : (count semicolon : ℕ) (text : List ℕ) → IsLoneCharset (pairs_within count (drop (semicolon + 1) text))
    → lowered text ≡ with_pairs_lowered count semicolon text
lone_charset-text count semicolon text lone =
    let from = semicolon + 1 in
    ap lowered (sym (take-append-drop from text)) ∙ lowered-append (take from text) (drop from text)
    ∙ ap (λ list. lowered (take from text) ++ list) (lone_charset-lowered count (drop from text) lone)
