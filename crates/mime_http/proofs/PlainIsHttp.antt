-- What the library walks over HTTP reads in the same way. So what the library reads is what HTTP writes there, and where the library stops
-- HTTP stops as well, but at white space and at a semicolon.
use Rattle.mime_http.proofs.Common.{Reads, pairs_of_tail-lowered, is_some, not, ◌||◌, nat_tests, pairs_of_tail, unwrap_or, blank}
use Rattle.mime_http.proofs.Common.{stopped-from_walk, IsAccepted, AreSpaces, Begun, ClosedParameters, EndsIn, Explains, NoMemory}
use Rattle.mime_http.proofs.Common.{InvalidToken, IsDeadAt, IsHttpFault, IsHttpMediaType, List, MatchOption, None, Option, ParseError}
use Rattle.mime_http.proofs.Common.{Parameters, Parts, PlainIsHttp, Some, State, SyntaxTree, [], after_semicolon, answer_at_end}
use Rattle.mime_http.proofs.Common.{answer_from, answer_of, append_assoc, append-nil, arith, before_semicolon, before_type, by_option}
use Rattle.mime_http.proofs.Common.{completion_of, false, grow, in_name, in_string, in_subtype, in_type, in_value, is_space, last_byte_of}
use Rattle.mime_http.proofs.Common.{length, list_at, media_of_parts, more, next, none-some, not_viable-at_dead, one_fault, one_reading}
use Rattle.mime_http.proofs.Common.{option_map, pair_of, pairs_of_list, read, refl, rejected, same_Some, sym, tree_of, true, value_of}
use Rattle.mime_http.proofs.Common.{viable-from_walk, walk, walk-accepted, walk_from, with_pairs, parts_with, ℕ, ⊤, ◌++◌, ◌+◌, ◌==◌}
use Rattle.mime_http.proofs.Common.{◌∙◌, ◌∷◌, ◌≡◌, ◌≢◌, accepted-from_walk, dead-from_stop, stop-from_walk, with_closed}
use Rattle.mime.proofs.HandedOut as walked
use Rattle.mime.proofs.HandedOut.{ListState}
use Rattle.mime_http.proofs.{Around.white_more, ReadBack.answered_is_http, ReadFaults.answered_fault, Runs.no_way, Runs.keeps_before}
use Rattle.mime_http.proofs.{Runs.over_white}

-- ---- side by side

-- The pairs of what was walked up to the last semicolon.
abbrev closed_pairs : ClosedParameters → List (List ℕ × List ℕ)
closed_pairs [] = []
closed_pairs ((n, parameter) ∷ closed) = closed_pairs closed ++ (pair_of parameter ∷ [])

-- HTTP's state after the bytes that lead the library to its own state in a list.
abbrev state_in : Parts → ListState → State
state_in parts (walked.in_spaces n) = after_semicolon parts
state_in parts (walked.in_name n name) = in_name parts name
state_in parts (walked.in_value n name value) = in_value parts name value
state_in parts (walked.in_quotes n name content) = in_string parts name content
state_in parts (walked.after_quotes n name content m) = before_semicolon (parts_with parts name content)

-- HTTP's state after the bytes that lead the library to its own state.
abbrev state_of : Begun → State
state_of (walked.in_type []) = before_type
state_of (walked.in_type (t ∷ top)) = in_type (t ∷ top)
state_of (walked.in_subtype top sub) = in_subtype top sub
state_of (walked.in_list top sub list) = state_in (record { top = top; sub = sub; pairs = closed_pairs list.closed }) list.position

-- HTTP goes on where the library does, and stops where it stops, but at white space and at a semicolon.
abbrev Follows : ℕ → Option State → Option Begun → Type 0
Follows b after grown = (is_some grown || not (is_space b || b == 59)) ≡ true → after ≡ option_map state_of grown

-- HTTP follows the library within a list.
in_list : (b : ℕ) (top sub : List ℕ) (closed : ClosedParameters) (position : ListState)
    → let begun = walked.in_list top sub (list_at closed position) in Follows b (next (state_of begun) b) (grow begun b)
in_list b top sub closed (walked.in_value n name []) = grind (arith, nat_tests)
in_list b top sub closed position = grind (arith, nat_tests)

-- HTTP follows the library in each state.
side_by_side : (b : ℕ) (begun : Begun) → Follows b (next (state_of begun) b) (grow begun b)
side_by_side b (walked.in_list top sub list) = in_list b top sub list.closed list.position
side_by_side b (walked.in_type []) = grind (arith, nat_tests)
side_by_side b (walked.in_subtype top []) = grind (arith, nat_tests)
side_by_side b begun = grind (arith, nat_tests)

-- HTTP follows the library over each byte of a text that the library walks.
over_front : (front : List ℕ) (begun last : Begun) → walk_from begun front ≡ Some last → (at : ℕ) (bytes : List ℕ)
    → answer_from (state_of begun) at (front ++ bytes) ≡ answer_from (state_of last) (at + length front) bytes
over_front [] begun last goes at bytes = grind (arith, same_Some begun last goes)
over_front (b ∷ front) begun last goes at bytes =
    let rest = λ (more : Begun) (goes : walk_from more front ≡ Some last). over_front front more last goes (at + 1) bytes in
    grind (arith, side_by_side b begun, rest)

-- ---- what the library reads

-- The parts of a tree.
abbrev parts_of : SyntaxTree → Parts
parts_of tree = record { top = tree.top; sub = tree.sub; pairs = pairs_of_tail tree.tail }

-- The pairs of a list are those that were closed, and the last ones.
pairs_closed : (closed : ClosedParameters) (rest : Parameters)
    → pairs_of_list (with_closed closed rest) ≡ closed_pairs closed ++ pairs_of_list rest
pairs_closed [] rest = refl
pairs_closed ((n, parameter) ∷ closed) rest = pairs_closed closed (more n parameter rest) ∙ sym (append_assoc (closed_pairs closed) _ _)

-- The parts of a tree are HTTP's answer at the end of a list.
list_ends : (top sub : List ℕ) (closed : ClosedParameters) (position : ListState) (tree : SyntaxTree)
    → tree_of (walked.in_list top sub (list_at closed position)) ≡ Some tree
    → answer_at_end (state_of (walked.in_list top sub (list_at closed position))) ≡ read (parts_of tree)
list_ends top sub closed (walked.in_spaces n) tree is = grind (arith, pairs_closed closed (blank n), append-nil)
list_ends top sub closed (walked.in_value n name []) tree is = absurd (none-some tree is)
list_ends top sub closed position tree is = grind (arith, pairs_closed)

-- The parts of a tree are HTTP's answer at the end of a text.
tree_ends : (begun : Begun) (tree : SyntaxTree) → tree_of begun ≡ Some tree → answer_at_end (state_of begun) ≡ read (parts_of tree)
tree_ends (walked.in_subtype top (s ∷ sub)) tree is = grind arith
tree_ends (walked.in_list top sub list) tree is = list_ends top sub list.closed list.position tree is
tree_ends begun tree is = absurd (none-some tree is)

-- What the library reads is what HTTP writes.
pub plain_is_http : PlainIsHttp
plain_is_http value media reads =
    let (begun, tree, (goes, is)) = walk-accepted value (media, reads) in
    let own : Reads value (value_of tree) = grind (arith, accepted-from_walk value begun tree goes is) in
    let answered : answer_of value ≡ read (parts_of tree) =
    grind (arith, append-nil value, over_front value (walked.in_type []) begun goes 0 [], tree_ends begun tree is) in
    let same : media_of_parts (parts_of tree) ≡ with_pairs media media.pairs =
    grind (arith, pairs_of_tail-lowered tree.tail, one_reading value (value_of tree) media own reads) in
    white_more _ [] [] refl refl (rw same at (answered_is_http value (parts_of tree) answered)) (append-nil value)

-- ---- where it stops

-- A byte at fault for the library, after white space, is HTTP's fault, too, if it is neither white space nor a semicolon.
pub same_byte : (before text after : List ℕ) (pos byte : ℕ) → AreSpaces before → IsDeadAt text pos byte → is_space byte ≡ false
    → byte ≢ 59 → IsHttpFault (before ++ (text ++ after)) (InvalidToken (length before + pos) byte)
same_byte before text after pos byte white dead space other = by_option (walk text)
    (λ none.
    let stop = stop-from_walk (walked.in_type []) text none in
    let one = one_fault text (stopped-from_walk text none) in
    let same = one.2 (InvalidToken (length stop.prefix) stop.byte) (dead-from_stop text stop)
    ∙ sym (one.2 (InvalidToken pos byte) dead) in
    let stops = side_by_side stop.byte stop.begun (grind (arith, nat_tests, stop.dead, same, space, other)) in
    let over = over_front stop.prefix (walked.in_type []) stop.begun stop.walked in
    let last = no_way (state_of stop.begun) (0 + length before + pos) stop.byte in
    let answer : answer_of (before ++ (text ++ after)) ≡ rejected (InvalidToken (length before + pos) byte) =
    grind (arith, stop.dead, stop.spelled, append_assoc, over_white before_type keeps_before before white 0, over, last) in
    answered_fault _ _ answer)
    (λ begun goes. absurd (not_viable-at_dead text pos byte dead (viable-from_walk text begun goes)))

-- What is missing for the library at the end, after white space, is missing for HTTP, too.
pub same_lack : (before text : List ℕ) (fault : ParseError) → AreSpaces before → fault ≢ NoMemory
    → ((pos byte : ℕ) → fault ≢ InvalidToken pos byte) → Explains text fault → IsHttpFault (before ++ text) fault
same_lack before text NoMemory white other nor why = absurd (other refl)
same_lack before text (InvalidToken pos byte) white other nor why = absurd (nor pos byte refl)
same_lack before text fault white other nor lacks =
    (completed (unwrap_or (completion_of fault) []) lacks.0, ended_in (last_byte_of fault) lacks.1)
  where
    completed : (bytes : List ℕ) → IsAccepted (text ++ bytes) → IsHttpMediaType ((before ++ text) ++ bytes)
    completed bytes (media, reads) =
        (media, white_more _ before [] white refl (plain_is_http (text ++ bytes) media reads) (simp (append_assoc, append-nil)))

    ended_in : (byte : Option ℕ) → MatchOption byte ⊤ (EndsIn text) → MatchOption byte ⊤ (EndsIn (before ++ text))
    ended_in None is = is
    ended_in (Some byte) (front, same) = (before ++ front, rw same (simp append_assoc))
