-- What is read of a value is what HTTP writes: each state says what the bytes so far are.
use Rattle.std.proofs.Common.{rules}
use Rattle.mime_http.proofs.Common.{Answer, arith, AreHttpParameters, AreSpaces, AreTokenBytes, AreTokenBytes-from_token, Bool, HttpReads}
use Rattle.mime_http.proofs.Common.{IsContent, IsHttpParameter, IsToken, List, MatchOption, MatchOption-at_some, Option, Parts, Some, State}
use Rattle.mime_http.proofs.Common.{[], after_semicolon, answer_at_end, answer_from, answer_of, append-nil, append_assoc, before_semicolon}
use Rattle.mime_http.proofs.Common.{before_type, cond_both, eqb-true, in_name, in_string, in_subtype, in_type, in_value, is_space}
use Rattle.mime_http.proofs.Common.{is_token_byte, list_all, list_all-append, map, map-append, media_of_parts, next, no_byte, no_more}
use Rattle.mime_http.proofs.Common.{quoted_pair, read, refl, rejected, semicolon, semicolon_and, subst, text_byte, true, parts_with}
use Rattle.mime_http.proofs.Common.{with_string, with_token, ℕ, ⊤, ◌++◌, ◌+◌, ◌∷◌, ◌≡◌, IsOpenContent, lowered_pair, IsContent-closed}
use Rattle.mime_http.proofs.Common.{IsOpenContent-push}

-- ---- what the bytes are in each state

-- A media type of these parts, with white space around it.
pub data Whole (parts : Parts) : List ℕ → Type 0 where
  whole : (before parameters after : List ℕ) → AreSpaces before → IsToken parts.top → IsToken parts.sub
      → AreHttpParameters parameters (map lowered_pair parts.pairs) → AreSpaces after
      → Whole parts (before ++ (parts.top ++ (47 ∷ (parts.sub ++ (parameters ++ after)))))

-- A media type of these parts, a semicolon and white space.
pub data Opened (parts : Parts) : List ℕ → Type 0 where
  opened : (first after : List ℕ) → Whole parts first → AreSpaces after → Opened parts (first ++ (59 ∷ after))

-- Bytes behind others.
pub data Behind (Front : List ℕ → Type 0) (bytes : List ℕ) : List ℕ → Type 0 where
  behind : (front : List ℕ) → Front front → Behind Front bytes (front ++ bytes)

abbrev pub Spells : State → List ℕ → Type 0
Spells before_type front = AreSpaces front
Spells (in_type top) front = IsToken top × Behind AreSpaces top front
Spells (in_subtype top sub) front = IsToken top × AreTokenBytes sub × Behind AreSpaces (top ++ (47 ∷ sub)) front
Spells (before_semicolon parts) front = Whole parts front
Spells (after_semicolon parts) front = Opened parts front
Spells (in_name parts name) front = IsToken name × Behind (Opened parts) name front
Spells (in_value parts name value) front = IsToken name × AreTokenBytes value × Behind (Opened parts) (name ++ (61 ∷ value)) front
Spells (in_string parts name content) front =
    IsToken name × IsOpenContent content × Behind (Opened parts) (name ++ (61 ∷ 34 ∷ content)) front

-- ---- a byte more

-- A byte of a class after bytes of the class is one more of them.
one_more : (class : ℕ → Bool) (bytes : List ℕ) (b : ℕ) → list_all class bytes ≡ true → class b ≡ true
    → list_all class (bytes ++ (b ∷ [])) ≡ true
one_more class bytes b all is = grind (arith, list_all-append)

-- A token byte after token bytes makes a token.
token_more : (token : List ℕ) (b : ℕ) → AreTokenBytes token → is_token_byte b ≡ true → IsToken (token ++ (b ∷ []))
token_more [] b all is = one_more is_token_byte [] b all is
token_more (t ∷ token) b all is = one_more is_token_byte (t ∷ token) b all is

-- Content before content is content.
pub content_more : {content more : List ℕ} → IsContent content → IsContent more → IsContent (content ++ more)
content_more no_byte is = is
content_more (text_byte b content text rest) is = text_byte b _ text (content_more rest is)
content_more (quoted_pair b content fits rest) is = quoted_pair b _ fits (content_more rest is)

-- A byte after bytes behind others is behind the others, too.
more : {Front : List ℕ → Type 0} {bytes front : List ℕ} (b : ℕ) → Behind Front bytes front
    → Behind Front (bytes ++ (b ∷ [])) (front ++ (b ∷ []))
more b (behind front is) = simp append_assoc (behind front is)

-- ---- a media type

-- Parameters after others are parameters.
parameters_more : {bytes more : List ℕ} {pairs others : List (List ℕ × List ℕ)} → AreHttpParameters bytes pairs
    → AreHttpParameters more others → AreHttpParameters (bytes ++ more) (pairs ++ others)
parameters_more no_more are = are
parameters_more (semicolon before after _ _ white space all) are = search (parameters_more all are, append_assoc, semicolon, rules)
parameters_more (semicolon_and before after parameter _ pair _ white space is all) are =
    search (parameters_more all are, append_assoc, semicolon_and, rules)

-- A type and a subtype behind white space are a media type.
essence_read : {top sub front : List ℕ} → IsToken top → IsToken sub → Behind AreSpaces (top ++ (47 ∷ sub)) front
    → Whole (record { top = top; sub = sub; pairs = [] }) front
essence_read {top} {sub} is_top is_sub (behind before white) =
    subst (λ x. Whole (record { top = top; sub = sub; pairs = [] }) (before ++ (top ++ (47 ∷ x)))) (append-nil sub)
    (whole before [] [] white is_top is_sub no_more refl)

-- A media type may have white space after it.
space_after : {parts : Parts} {front : List ℕ} (b : ℕ) → is_space b ≡ true → Whole parts front
    → Whole parts (front ++ (b ∷ []))
space_after b space (whole before parameters after first top sub are last) =
    simp append_assoc (whole before parameters _ first top sub are (one_more is_space after b last space))

-- A media type may have a parameter after a semicolon.
parameter_after : {parts : Parts} {bytes front : List ℕ} (name value : List ℕ) → IsHttpParameter bytes (lowered_pair (name, value))
    → Behind (Opened parts) bytes front → Whole (parts_with parts name value) front
parameter_after {parts} {bytes} name value is (behind _ (opened _ space (whole before parameters after first top sub are last) white)) =
    subst (Whole (parts_with parts name value)) (simp (append_assoc, append-nil))
    (whole before (parameters ++ (after ++ (59 ∷ (space ++ (bytes ++ []))))) [] first top sub
    (rw (map-append lowered_pair parts.pairs ((name, value) ∷ []))
    (parameters_more are (semicolon_and after space bytes [] (lowered_pair (name, value)) [] last white is no_more))) refl)

-- A media type may have a semicolon after it with no parameter.
opened_is_whole : {parts : Parts} {front : List ℕ} → Opened parts front → Whole parts front
opened_is_whole {parts} (opened _ space (whole before parameters after first top sub are last) white) =
    let more = rw (append-nil (map lowered_pair parts.pairs)) at (parameters_more are (semicolon after space [] [] last white no_more)) in
    subst (Whole parts) (simp (append_assoc, append-nil)) (whole before _ [] first top sub more refl)

-- A media type may have white space after a semicolon.
space_inside : {parts : Parts} {front : List ℕ} (b : ℕ) → is_space b ≡ true → Opened parts front
    → Opened parts (front ++ (b ∷ []))
space_inside b space (opened first after is white) = simp append_assoc (opened first _ is (one_more is_space after b white space))

-- ---- the state after a byte

module _ (b : ℕ) (front : List ℕ) where
  -- The bytes with the next byte are what the next state says, if there is one.
  abbrev Fits : Option State → Type 0
  Fits after = MatchOption after ⊤ (λ next. Spells next (front ++ (b ∷ [])))

  -- The bytes with the next byte are what the next state says, in each state.
  after_state : (state : State) → Spells state front → Fits (next state b)
  after_state before_type is = grind (arith, cond_both, token_more, behind, one_more)
  after_state (in_type top) is = grind (arith, cond_both, token_more, AreTokenBytes-from_token, more b is.1, eqb-true)
  after_state (in_subtype top (s ∷ sub)) is =
      let whole = essence_read is.0 is.1 is.2 in
      grind (arith, cond_both, one_more is_token_byte (s ∷ sub) b is.1, more b is.2, append_assoc, space_after, opened, eqb-true, whole)
  after_state (before_semicolon parts) is = grind (arith, cond_both, space_after, opened, eqb-true)
  after_state (after_semicolon parts) is = grind (arith, cond_both, space_inside, token_more, behind, opened, opened_is_whole, eqb-true)
  after_state (in_name parts name) is = grind (arith, cond_both, token_more, AreTokenBytes-from_token, more b is.1, eqb-true)
  after_state (in_value parts name (v ∷ value)) is =
      let whole = parameter_after name (v ∷ value) (with_token name (v ∷ value) is.0 is.1) is.2 in
      grind (arith, cond_both, one_more is_token_byte (v ∷ value) b is.1, more b is.2, append_assoc, space_after, opened, eqb-true, whole)
  after_state (in_string parts name content) is =
      let whole = λ (closed : IsContent content).
      parameter_after {parts = parts} {front = front ++ (b ∷ [])} name content (with_string name content is.0 closed) in
      grind (arith, cond_both, IsOpenContent-push, more b is.2, append_assoc, IsContent-closed, eqb-true, whole)
  after_state begun is = grind (arith, cond_both, token_more, more b is.2, append_assoc, eqb-true)

-- The bytes with a byte that leads to a state are what the state says.
pub spelled_after : (state after : State) (b : ℕ) (front : List ℕ) → next state b ≡ Some after → Spells state front
    → Spells after (front ++ (b ∷ []))
spelled_after state after b front goes is =
    MatchOption-at_some ⊤ (λ next. Spells next (front ++ (b ∷ []))) after goes (after_state b front state is)

-- ---- the whole value

-- A media type of these parts is what HTTP writes.
whole_is_http : {parts : Parts} {value : List ℕ} → Whole parts value → HttpReads value (media_of_parts parts)
whole_is_http {parts} (whole before parameters after first top sub are last) = grind arith

-- The parts that are an answer are what HTTP writes.
abbrev pub IsAnswer : List ℕ → Answer → Type 0
IsAnswer value (read parts) = HttpReads value (media_of_parts parts)
IsAnswer value (rejected fault) = ⊤

-- The answer at the end is what HTTP writes.
pub read_at_end : (state : State) (value : List ℕ) → Spells state value → IsAnswer value (answer_at_end state)
read_at_end (in_subtype top (s ∷ sub)) value is = whole_is_http (essence_read is.0 is.1 is.2)
read_at_end (before_semicolon parts) value is = whole_is_http is
read_at_end (after_semicolon parts) value is = whole_is_http (opened_is_whole is)
read_at_end (in_value parts name (v ∷ value)) front is = search (whole_is_http, parameter_after, with_token, rules)
read_at_end other value is = tt

-- The answer after more bytes is what HTTP writes.
pub read_from : (bytes : List ℕ) (state : State) (at : ℕ) (front : List ℕ) → Spells state front
    → IsAnswer (front ++ bytes) (answer_from state at bytes)
read_from [] state at front is = rw (append-nil front) (read_at_end state front is)
read_from (b ∷ bytes) state at front is =
    let rest = λ (after : State) (goes : next state b ≡ Some after).
    read_from bytes after (at + 1) (front ++ (b ∷ [])) (spelled_after state after b front goes is) in
    grind (arith, rest, append_assoc)

-- What is read of a value is what HTTP writes.
pub answered_is_http : (value : List ℕ) (parts : Parts) → answer_of value ≡ read parts → HttpReads value (media_of_parts parts)
answered_is_http value parts is = subst (IsAnswer value) is (read_from value before_type 0 [] refl)
