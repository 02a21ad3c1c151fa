-- What values feed a hasher is prefix-free: the byte 255 ends each part, and no part has it.
use Rattle.std.proofs.lemmas.Grind.{common_steps}
use Rattle.std.proofs.lemmas.Bool.{and_parts, and_from, cases_lt}
use Rattle.std.proofs.lemmas.Bool.Decides.{nat_tests}
use Rattle.std.proofs.lemmas.List.Concat.{flat_map-cons}
use Rattle.std.proofs.lemmas.List.Folds.{concat-append, list_all-append}
use Rattle.std.proofs.lemmas.Str.{encode_ascii}
use Rattle.std.proofs.Common.{◌≡◌, ℕ, List, [], ◌∷◌, ◌++◌, refl, sym, ap, ◌∙◌, arith, true, subst, append-nil, append_assoc, ⊎_elim, rules}
use Rattle.mime.specs.Inner.HashInput.{pair_input, media_input}
use Rattle.mime.specs.Bytes.{is_token_byte, slash_byte}
use Rattle.mime.specs.Grammar.{Parameter, plain, quoted, Parameters, blank, final, more, no_list, listed, AreTokenBytes, IsParameter}
use Rattle.mime.specs.Grammar.{AreParameters, IsTail, text_of_parameter, text_of_list, text_of_tail}
use Rattle.mime.specs.Values.{MediaType, lowered, lowered_parameter, lowered_list, lowered_tail, pair_of, pairs_of_list, pairs_of_tail}
use Rattle.mime.specs.HashLaws.{IsReadInUtf8, IsPrefixFree}
use Rattle.std.specs.Prelude.{IsUtf8}
use Rattle.std.specs.List.{list_all, flat_map, concat, AllByRecursion}
use Rattle.mime.proofs.BytesLemmas.{list_all-parts, list_all-wider, is_other, AreTokenBytes-from_token, are_other-token}
use Rattle.mime.proofs.LowercaseLemmas.{IsToken-lowered, list_all-lowered, lowered_value-either}
use Rattle.mime.proofs.ValueLemmas.ListText.{ended, before_byte-run, after_byte-run}
use Rattle.mime.proofs.ValueLemmas.Utf8.{high_bytes}
use Rattle.mime_search.specs.Rests.{before_byte, after_byte}
use lib.Utf8.{scalars, scalar, encodes, encode}

-- ---- the byte 255

-- no byte is 255
abbrev AreTextBytes : List ℕ → Type 0
AreTextBytes bytes = list_all (is_other 255) bytes ≡ true

-- Bytes none of which is 255, and their parts.
text_parts : (prefix back : List ℕ) → AreTextBytes (prefix ++ back) → AreTextBytes prefix × AreTextBytes back
text_parts = list_all-parts (is_other 255)

-- Joined bytes, none of which is 255, have none that is 255.
text_join : (prefix back : List ℕ) → AreTextBytes prefix → AreTextBytes back → AreTextBytes (prefix ++ back)
text_join prefix back first second = list_all-append (is_other 255) prefix back ∙ and_from _ _ first second

-- No character has the byte 255.
character_bytes : (c : ℕ) → scalar c ≡ true → AreTextBytes (encode c)
character_bytes c is = ⊎_elim
    (λ ascii. subst AreTextBytes (sym (encode_ascii c ascii)) (grind (arith, nat_tests)))
    (λ above. list_all-wider _ (is_other 255) (λ b high. grind (arith, nat_tests)) (encode c) (high_bytes c is above))
    (cases_lt c 128)

-- No valid UTF-8 has it.
characters_bytes : (characters : List ℕ) → scalars characters ≡ true → AreTextBytes (encodes characters)
characters_bytes [] are = refl
characters_bytes (c ∷ characters) are =
    let parts = and_parts (scalar c) (scalars characters) are in
    text_join (encode c) (encodes characters) (character_bytes c parts.0) (characters_bytes characters parts.1)

-- Valid UTF-8 has no byte 255.
pub utf8_bytes : (text : List ℕ) → IsUtf8 text → AreTextBytes text
utf8_bytes text utf8 = subst AreTextBytes utf8.1.1 (characters_bytes utf8.0 utf8.1.0)

-- Lowercasing adds none.
lowered_bytes : (text : List ℕ) → AreTextBytes text → AreTextBytes (lowered text)
lowered_bytes text all = list_all-lowered (is_other 255) (λ b. grind (arith, nat_tests)) text ∙ all

-- Two runs up to the first byte 255 are the same, and so is what follows.
first_end : (xs ys m n : List ℕ) → AreTextBytes xs → AreTextBytes ys → xs ++ (255 ∷ m) ≡ ys ++ (255 ∷ n)
    → (xs ≡ ys) × (m ≡ n)
first_end xs ys m n one other same = (
  sym (before_byte-run 255 xs (255 ∷ m) m one (ended m)) ∙ ap (before_byte 255) same
      ∙ before_byte-run 255 ys (255 ∷ n) n other (ended n),
  sym (after_byte-run 255 xs (255 ∷ m) m one (ended m)) ∙ ap (after_byte 255) same
      ∙ after_byte-run 255 ys (255 ∷ n) n other (ended n),
)

-- ---- the values that are read

-- a pair whose name is a token, and whose value has no byte 255
abbrev IsFedPair : List ℕ × List ℕ → Type 0
IsFedPair (name, value) = AreTokenBytes name × AreTextBytes value

-- Those of a text without the byte 255 are such pairs.
fed_pair : (p : Parameter) → IsParameter p → AreTextBytes (text_of_parameter p) → IsFedPair (pair_of (lowered_parameter p))
fed_pair (plain name value) well all =
    let bytes = (text_parts (61 ∷ []) value (text_parts name (61 ∷ value) all).1).1 in
    (AreTokenBytes-from_token _ (IsToken-lowered _ well.0), lowered_value-either AreTextBytes name value bytes (lowered_bytes value bytes))
fed_pair (quoted name value n) well all =
    let bytes = (text_parts value (34 ∷ n) (text_parts name (61 ∷ 34 ∷ (value ++ (34 ∷ n))) all).1).0 in
    (AreTokenBytes-from_token _ (IsToken-lowered _ well.0), lowered_value-either AreTextBytes name value bytes (lowered_bytes value bytes))

-- The pairs of a list without the byte 255 may be fed.
fed_list : (list : Parameters) → AreParameters list → AreTextBytes (text_of_list list)
    → AllByRecursion IsFedPair (pairs_of_list (lowered_list list))
fed_list (blank n) well all = tt
fed_list (final n p) well all = (fed_pair p well.1 (text_parts n (text_of_parameter p) all).1, tt)
fed_list (more n p rest) well all =
    let bytes = text_parts (text_of_parameter p) (59 ∷ text_of_list rest) (text_parts n _ all).1 in
    (fed_pair p well.1 bytes.0, fed_list rest well.2 bytes.1)

-- A text with a slash is no token.
slash_is_no_token : (prefix back : List ℕ) → ¬ (AreTokenBytes (prefix ++ (slash_byte ∷ back)))
unfolding is_token_byte
slash_is_no_token prefix back all = let parts = list_all-parts is_token_byte prefix (slash_byte ∷ back) all in absurd cc

-- what is known of a value that was read
pub record IsFed (value : MediaType) : Type 0 where
  pub pairs : AllByRecursion IsFedPair value.pairs
  pub essence : AreTextBytes value.essence
  pub slash : ¬ (AreTokenBytes value.essence)

-- A value that was read may be fed.
pub fed-read : (value : MediaType) → IsReadInUtf8 value → IsFed value
fed-read value (text, utf8, reads) =
    let tree = reads.tree in
    let well = reads.well_formed in
    let parts = text_parts tree.top _ (subst AreTextBytes (sym reads.spelled) (utf8_bytes text utf8)) in
    let after = text_parts tree.sub (text_of_tail tree.tail) parts.1 in
    subst IsFed reads.valued (record {
      pairs = (elim tree.tail as (λ tail. IsTail tail → AreTextBytes (text_of_tail tail)
          → AllByRecursion IsFedPair (pairs_of_tail (lowered_tail tail)))
          [ no_list ↦ λ well all. tt | listed list ↦ fed_list list ]) well.2 after.1;
      essence = text_join (lowered tree.top) (47 ∷ lowered tree.sub) (lowered_bytes tree.top parts.0) (lowered_bytes tree.sub after.0);
      slash = slash_is_no_token (lowered tree.top) (lowered tree.sub);
    })

-- ---- the bytes that are fed

-- The bytes of a pair, each part with its end.
abbrev pair_bytes : List ℕ × List ℕ → List ℕ
pair_bytes pair = pair.0 ++ (255 ∷ (pair.1 ++ (255 ∷ [])))

-- Pairs feed their bytes.
fed_pairs_bytes : (pairs : List (List ℕ × List ℕ)) → concat (flat_map pair_input pairs) ≡ flat_map pair_bytes pairs
fed_pairs_bytes [] = refl
fed_pairs_bytes (pair ∷ pairs) =
    ap concat (flat_map-cons pair_input pair pairs) ∙ concat-append (pair_input pair) (flat_map pair_input pairs)
    ∙ ap (λ bytes. pair_bytes pair ++ bytes) (fed_pairs_bytes pairs) ∙ sym (flat_map-cons pair_bytes pair pairs)

-- A value feeds the bytes of its pairs, its essence, and the byte 255.
media_bytes : (media : MediaType) (after : List ℕ)
    → concat (media_input media) ++ after ≡ flat_map pair_bytes media.pairs ++ (media.essence ++ (255 ∷ after))
media_bytes media after = search (fed_pairs_bytes, concat-append, append_assoc, rules)

-- The bytes of pairs, and what follows them.
more_bytes : (pair : List ℕ × List ℕ) (pairs : List (List ℕ × List ℕ)) (after : List ℕ)
    → flat_map pair_bytes (pair ∷ pairs) ++ after ≡ pair.0 ++ (255 ∷ (pair.1 ++ (255 ∷ (flat_map pair_bytes pairs ++ after))))
more_bytes pair pairs after = grind (arith, common_steps)

-- Pairs and essences whose bytes begin with the same are the same.
pairs_same : (xs ys : List (List ℕ × List ℕ)) (one other m n : List ℕ) → AllByRecursion IsFedPair xs
    → AllByRecursion IsFedPair ys → AreTextBytes one → AreTextBytes other → ¬ (AreTokenBytes one) → ¬ (AreTokenBytes other)
    → flat_map pair_bytes xs ++ (one ++ (255 ∷ m)) ≡ flat_map pair_bytes ys ++ (other ++ (255 ∷ n))
    → (one ≡ other) × (xs ≡ ys)
unfolding is_token_byte
pairs_same [] [] one other m n first second text also slash slashed same = ((first_end one other m n text also same).0, refl)
pairs_same [] (y ∷ ys) one other m n first second text also slash slashed same =
    let cut = first_end one y.0 m _ text (are_other-token 255 refl y.0 second.0.0) (same ∙ more_bytes y ys _) in
    absurd (slash (subst AreTokenBytes (sym cut.0) second.0.0))
pairs_same (x ∷ xs) [] one other m n first second text also slash slashed same =
    let cut = first_end x.0 other _ n (are_other-token 255 refl x.0 first.0.0) also (sym (more_bytes x xs _) ∙ same) in
    absurd (slashed (subst AreTokenBytes cut.0 first.0.0))
pairs_same (x ∷ xs) (y ∷ ys) one other m n first second text also slash slashed same =
    let named = first_end x.0 y.0 _ _ (are_other-token 255 refl x.0 first.0.0) (are_other-token 255 refl y.0 second.0.0)
    (sym (more_bytes x xs _) ∙ same ∙ more_bytes y ys _) in
    let valued = first_end x.1 y.1 _ _ first.0.1 second.0.1 named.1 in
    let rest = pairs_same xs ys one other m n first.1 second.1 text also slash slashed valued.1 in
    (rest.0, λ i. (named.0 i, valued.0 i) ∷ rest.1 i)

-- What values feed is prefix-free.
pub hash_is_prefix_free : IsPrefixFree (λ value. media_input value.media)
hash_is_prefix_free first second after one other same =
    let x = first.media in
    let y = second.media in
    let fed = fed-read x one in
    let also = fed-read y other in
    pairs_same x.pairs y.pairs x.essence y.essence after [] fed.pairs also.pairs fed.essence also.essence fed.slash also.slash
    (sym (media_bytes x after) ∙ same ∙ sym (append-nil (concat (media_input y))) ∙ media_bytes y [])
