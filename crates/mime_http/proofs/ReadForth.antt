-- What HTTP writes is read, byte by byte, as the media type that it is; what is read is safe in a header, and in UTF-8.
use Rattle.mime_http.proofs.Common.{AllByRecursion, IsUtf8-append, cond_both, is_token, text_of_pair, text_of_pairs, length-append}
use Rattle.mime_http.proofs.Common.{AreHttpParameters, AreSpaces, AreTokenBytes-from_token, HttpReads, IsHttpParameter, IsSafePair, IsToken}
use Rattle.mime_http.proofs.Common.{IsUtf8, IsUtf8-nil, List, MediaType, Parts, Some, State, [], after_semicolon, and_parts, answer_at_end}
use Rattle.mime_http.proofs.Common.{answer_from, answer_of, ap, append-nil, append_assoc, arith, before_semicolon, content-from_token}
use Rattle.mime_http.proofs.Common.{is_quoted_byte, is_space, is_token_byte, length, map, media_of_parts, next, no_more, read, refl}
use Rattle.mime_http.proofs.Common.{semicolon}
use Rattle.mime_http.proofs.Common.{semicolon_and, subst, sym, with_pairs, parts_with, with_string, with_token, ℕ, ◌++◌, ◌+◌, ◌∙◌, ◌∷◌}
use Rattle.mime_http.proofs.Common.{◌≡◌, before_type, lowered_pair, regroup}
use Rattle.mime_http.proofs.Around.{around, past_ascii, put_ascii, spaces_ascii, past_token, put_one, put_token}
use Rattle.mime_http.proofs.Runs.{EndsToken, KeepsSpace, content_ends, name_begins, on_content, on_subtype, on_value, space_is_no_token}
use Rattle.mime_http.proofs.Runs.{subtype_ends, type_begins, value_ends, keeps_after, keeps_before, keeps_inside, over_white}

-- ---- a parameter

-- What is written of a pair is in UTF-8 if its value is.
utf8_pair : (name value : List ℕ) → IsToken name → IsUtf8 value → IsUtf8 (text_of_pair (name, value))
utf8_pair name value named utf8 =
    let quoted = put_one 34 [] (omega arith) IsUtf8-nil in
    let quote = cond_both (is_token value) [] (34 ∷ []) IsUtf8 (λ token. IsUtf8-nil) (λ other. quoted) in
    put_ascii (59 ∷ 32 ∷ []) _ (omega arith)
    (put_token name _ named (put_one 61 _ (omega arith) (IsUtf8-append _ _ quote (IsUtf8-append value _ utf8 quote))))

-- After a semicolon a parameter is read that is this pair.
record ReadsOne (text bytes : List ℕ) (pair : List ℕ × List ℕ) : Type 0 where
  found : List ℕ × List ℕ
  same : lowered_pair found ≡ pair
  safe : IsSafePair found
  utf8 : IsUtf8 (text ++ bytes) → IsUtf8 (text_of_pair found) × IsUtf8 bytes
  reads : (parts : Parts) (at : ℕ) → answer_from (after_semicolon parts) at (text ++ bytes)
      ≡ answer_from (before_semicolon (parts_with parts found.0 found.1)) (at + length text) bytes

-- Each parameter that HTTP writes is read as its pair.
reads_one : {text : List ℕ} {pair : List ℕ × List ℕ} → IsHttpParameter text pair → (bytes : List ℕ) → EndsToken bytes
    → ReadsOne text bytes pair
unfolding is_token_byte is_quoted_byte
reads_one (with_token name value named valued) bytes ends = record {
  found = (name, value);
  same = refl;
  safe = (named, content-from_token value valued);
  utf8 = λ utf8.
      let (here, rest) = past_token value bytes valued (around name 61 (value ++ bytes) (omega arith) (simp regroup at utf8)).1 in
      (utf8_pair name value named here, rest);
  reads = λ parts at. (simp regroup (name_begins parts name named at (61 ∷ (value ++ bytes))))
      ∙ on_value parts name value (AreTokenBytes-from_token value valued) [] (at + length name + 1) bytes
      ∙ value_ends parts name value valued _ bytes ends
      ∙ ap (λ to. answer_from (before_semicolon (parts_with parts name value)) to bytes)
      (omega (arith, length-append name (61 ∷ value)));
}
reads_one (with_string name content named is) bytes ends = record {
  found = (name, content);
  same = refl;
  safe = (named, is);
  utf8 = λ utf8.
      let quoted = (around name 61 (34 ∷ (content ++ (34 ∷ bytes))) (omega arith) (simp regroup at utf8)).1 in
      let (here, rest) = around content 34 bytes (omega arith) (around [] 34 (content ++ (34 ∷ bytes)) (omega arith) quoted).1 in
      (utf8_pair name content named here, rest);
  reads = λ parts at.
      let begins = name_begins parts name named at (61 ∷ 34 ∷ (content ++ (34 ∷ bytes))) in
      let long = length-append name (61 ∷ 34 ∷ (content ++ (34 ∷ []))) in
      simp regroup (grind (arith, length-append content (34 ∷ []), on_content is parts name [] refl, content_ends is parts name));
}

-- ---- parameters and the white space after them

-- Before a semicolon or the end, and after a semicolon that no parameter follows, white space changes nothing, a semicolon may follow, and
-- the end.
record IsBetween (parts : Parts) (state : State) : Type 0 where
  white : KeepsSpace state
  semicolon : next state 59 ≡ Some (after_semicolon parts)
  end : answer_at_end state ≡ read parts

-- Before a semicolon, reading is between parameters.
outside : (parts : Parts) → IsBetween parts (before_semicolon parts)
outside parts = record { white = keeps_after parts; semicolon = refl; end = refl }

-- After a semicolon, reading is between parameters.
inside : (parts : Parts) → IsBetween parts (after_semicolon parts)
unfolding is_token_byte
inside parts = record { white = keeps_inside parts; semicolon = refl; end = refl }

-- Up to the end of the bytes parameters are read that are these pairs.
record ReadsOn (bytes : List ℕ) (pairs : List (List ℕ × List ℕ)) : Type 0 where
  ends : EndsToken bytes
  found : List (List ℕ × List ℕ)
  same : map lowered_pair found ≡ pairs
  safe : AllByRecursion IsSafePair found
  utf8 : IsUtf8 bytes → IsUtf8 (text_of_pairs found)
  reads : (parts : Parts) (state : State) → IsBetween parts state → (at : ℕ)
      → answer_from state at bytes ≡ read (record parts { pairs = parts.pairs ++ found })

-- White space, before bytes that don't go on a token, doesn't go on one either.
white_ends : (white bytes : List ℕ) → AreSpaces white → EndsToken bytes → EndsToken (white ++ bytes)
white_ends [] bytes all ends = ends
white_ends (b ∷ white) bytes all ends = space_is_no_token b (and_parts (is_space b) _ all).0

module _ (before after bytes : List ℕ) (first : AreSpaces before) (second : AreSpaces after) where
  -- Reading goes on over white space, a semicolon and white space.
  after_white : {parts : Parts} {state : State} → IsBetween parts state → (at : ℕ)
      → answer_from state at (before ++ (59 ∷ (after ++ bytes)))
      ≡ answer_from (after_semicolon parts) (at + length before + 1 + length after) bytes
  after_white {parts} {state} between at = grind (arith, over_white, between.white, between.semicolon, keeps_inside)

  -- The bytes after a semicolon and white space are in UTF-8 if all are.
  utf8_past : IsUtf8 (before ++ (59 ∷ (after ++ bytes))) → IsUtf8 bytes
  utf8_past utf8 = past_ascii after bytes (spaces_ascii after second) (around before 59 (after ++ bytes) (omega arith) utf8).1

-- The parameters that HTTP writes are read as their pairs.
reads_on : {text : List ℕ} {pairs : List (List ℕ × List ℕ)} → AreHttpParameters text pairs → (after : List ℕ)
    → AreSpaces after → ReadsOn (text ++ after) pairs
unfolding is_token_byte
reads_on no_more after white = record {
  ends = rw append-nil at (white_ends after [] white tt);
  found = [];
  same = refl;
  safe = tt;
  utf8 = λ is. IsUtf8-nil;
  reads = λ parts state between at. grind (arith, append-nil, over_white state between.white after white at [], between.end);
}
reads_on (semicolon b a rest pairs first second is) after white =
    let from = reads_on is after white in
    simp regroup (record {
      ends = white_ends b (59 ∷ (a ++ (rest ++ after))) first refl;
      found = from.found;
      same = from.same;
      safe = from.safe;
      utf8 = λ is. from.utf8 (utf8_past b a (rest ++ after) first second is);
      reads = λ parts state between at.
          after_white b a (rest ++ after) first second between at ∙ from.reads parts (after_semicolon parts) (inside parts) _;
    })
reads_on (semicolon_and b a parameter rest pair pairs first second is_one is) after white =
    let from = reads_on is after white in
    let one = reads_one is_one (rest ++ after) from.ends in
    simp regroup (record {
      ends = white_ends b (59 ∷ (a ++ (parameter ++ (rest ++ after)))) first refl;
      found = one.found ∷ from.found;
      same = λ i. one.same i ∷ from.same i;
      safe = (one.safe, from.safe);
      utf8 = λ is.
          let (here, rest) = one.utf8 (utf8_past b a (parameter ++ (rest ++ after)) first second is) in
          IsUtf8-append _ _ here (from.utf8 rest);
      reads = λ parts state between at.
          let more = parts_with parts one.found.0 one.found.1 in
          after_white b a (parameter ++ (rest ++ after)) first second between at ∙ one.reads parts _
          ∙ from.reads more (before_semicolon more) (outside more) _ ∙ rw (append_assoc parts.pairs _ _) refl;
    })

-- What is read is a type, a subtype, and parameters that are safe in a header, and are written in UTF-8 if the value is.
pub record AreFound (value : List ℕ) (parts : Parts) : Type 0 where
  pub is_top : IsToken parts.top
  pub is_sub : IsToken parts.sub
  pub safe : AllByRecursion IsSafePair parts.pairs
  pub utf8 : IsUtf8 value → IsUtf8 (text_of_pairs parts.pairs)

-- The parts of a value are read, which are those of the media type.
pub http_is_answered : (value : List ℕ) (media : MediaType) → HttpReads value media
    → (parts : Parts) × (answer_of value ≡ read parts) × (media_of_parts parts ≡ with_pairs media media.pairs) × AreFound value parts
unfolding is_token_byte
http_is_answered value media reads =
    let top = reads.top in
    let sub = reads.sub in
    let rest = reads.parameters ++ reads.after in
    let from = reads_on reads.are_parameters reads.after reads.white_after in
    let at = 0 + length reads.before in
    let bare : Parts = record { top = top; sub = sub; pairs = [] } in
    let over = over_white before_type keeps_before reads.before reads.white_before 0 (top ++ (47 ∷ (sub ++ rest))) in
    let begins = type_begins top reads.is_top at (47 ∷ (sub ++ rest)) in
    let ends = subtype_ends top sub reads.is_sub (at + length top + 1 + length sub) rest from.ends in
    let last = from.reads bare (before_semicolon bare) (outside bare) in (
      record { top = top; sub = sub; pairs = from.found },
      grind (arith, reads.spelled, over, begins, on_subtype top sub (AreTokenBytes-from_token sub reads.is_sub) [], ends, last),
      rw (reads.essence, reads.slash, reads.plus, from.same) refl,
      record {
        is_top = reads.is_top;
        is_sub = reads.is_sub;
        safe = from.safe;
        utf8 = λ is.
            let begun = past_ascii reads.before _ (spaces_ascii reads.before reads.white_before) (subst IsUtf8 (sym reads.spelled) is) in
            from.utf8 (past_token sub rest reads.is_sub (around top 47 (sub ++ rest) (omega arith) begun).1).1;
      },
    )
