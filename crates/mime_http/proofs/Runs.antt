-- How reading goes on over white space, over a token, and over quoted content.
use Rattle.mime_http.proofs.Common.{AreSpaces, AreTokenBytes, Bool, InvalidToken, IsContent, IsToken, List, None, Parts, Some, State, []}
use Rattle.mime_http.proofs.Common.{after_semicolon, append-nil, awaits_after, awaits_after-append, takes_all, append_assoc, answer_from}
use Rattle.mime_http.proofs.Common.{arith, before_semicolon, before_type, in_name, in_string, in_subtype, in_type, in_value, is_space}
use Rattle.mime_http.proofs.Common.{is_token_byte, length, list_all, list_all-append, nat_tests, next, refl, rejected, true, false}
use Rattle.mime_http.proofs.Common.{parts_with, ℕ, ⊤, ◌++◌, ◌+◌, ◌∷◌, ◌≡◌, content-closed, content-taken}

-- White space after white space is white space.
pub spaces-append : (n m : List ℕ) → AreSpaces n → AreSpaces m → AreSpaces (n ++ m)
spaces-append n m first second = grind (arith, list_all-append)

-- Reading goes on from the state that a byte leads to.
pub one_byte : (state after : State) (at b : ℕ) (bytes : List ℕ) → next state b ≡ Some after
    → answer_from state at (b ∷ bytes) ≡ answer_from after (at + 1) bytes
one_byte state after at b bytes goes = rw goes refl

-- A byte that leads nowhere is the fault.
pub no_way : (state : State) (at b : ℕ) (bytes : List ℕ) → next state b ≡ None
    → answer_from state at (b ∷ bytes) ≡ rejected (InvalidToken at b)
no_way state at b bytes stops = rw stops refl

-- Bytes of a class are read if each goes on what was read before it.
bytes_go_on : (class : ℕ → Bool) (state : List ℕ → State)
    → ((done : List ℕ) (b : ℕ) → class b ≡ true → next (state done) b ≡ Some (state (done ++ (b ∷ []))))
    → (run : List ℕ) → list_all class run ≡ true → (done : List ℕ) (at : ℕ) (bytes : List ℕ)
    → answer_from (state done) at (run ++ bytes) ≡ answer_from (state (done ++ run)) (at + length run) bytes
bytes_go_on class state goes [] all done at bytes = grind (arith, append-nil)
bytes_go_on class state goes (b ∷ run) all done at bytes = grind (arith, bytes_go_on class state goes run, append_assoc)

-- ---- white space

-- A space is no token byte.
pub space_is_no_token : (b : ℕ) → is_space b ≡ true → is_token_byte b ≡ false
unfolding is_token_byte
space_is_no_token b is = grind (arith, nat_tests)

-- A space leads on from a state to itself.
abbrev pub KeepsSpace : State → Type 0
KeepsSpace state = (b : ℕ) → is_space b ≡ true → next state b ≡ Some state

-- The state before the type keeps white space.
pub keeps_before : KeepsSpace before_type
keeps_before b is = rw (space_is_no_token b is, is) refl

-- A space before a semicolon or the end changes nothing.
pub keeps_after : (parts : Parts) → KeepsSpace (before_semicolon parts)
keeps_after parts b is = rw is refl

-- The state after a semicolon keeps white space.
pub keeps_inside : (parts : Parts) → KeepsSpace (after_semicolon parts)
keeps_inside parts b is = rw is refl

-- White space changes nothing in a state that it keeps.
pub over_white : (state : State) → KeepsSpace state → (white : List ℕ) → AreSpaces white → (at : ℕ) (bytes : List ℕ)
    → answer_from state at (white ++ bytes) ≡ answer_from state (at + length white) bytes
over_white state keeps white all at bytes = bytes_go_on is_space (λ done. state) (λ done. keeps) white all [] at bytes

-- ---- tokens

-- Token bytes go on the subtype.
pub on_subtype : (top run : List ℕ) → AreTokenBytes run → (sub : List ℕ) (at : ℕ) (bytes : List ℕ)
    → answer_from (in_subtype top sub) at (run ++ bytes) ≡ answer_from (in_subtype top (sub ++ run)) (at + length run) bytes
on_subtype top [] all sub at bytes = grind (arith, append-nil)
on_subtype top (b ∷ run) all [] at bytes = grind (arith, on_subtype top run)
on_subtype top (b ∷ run) all (s ∷ sub) at bytes = grind (arith, on_subtype top run, append_assoc)

-- Token bytes go on a parameter's value.
pub on_value : (parts : Parts) (name run : List ℕ) → AreTokenBytes run → (value : List ℕ) (at : ℕ) (bytes : List ℕ)
    → answer_from (in_value parts name value) at (run ++ bytes)
    ≡ answer_from (in_value parts name (value ++ run)) (at + length run) bytes
on_value parts name [] all value at bytes = grind (arith, append-nil)
on_value parts name (b ∷ run) all [] at bytes = grind (arith, on_value parts name run)
on_value parts name (b ∷ run) all (v ∷ value) at bytes = grind (arith, on_value parts name run, append_assoc)

-- A token begins the type.
pub type_begins : (token : List ℕ) → IsToken token → (at : ℕ) (bytes : List ℕ)
    → answer_from before_type at (token ++ bytes) ≡ answer_from (in_type token) (at + length token) bytes
type_begins [] is at bytes = absurd cc
type_begins (b ∷ token) is at bytes = grind (arith, bytes_go_on is_token_byte in_type (λ done b is. rw is refl) token)

-- A token begins a parameter's name.
pub name_begins : (parts : Parts) (token : List ℕ) → IsToken token → (at : ℕ) (bytes : List ℕ)
    → answer_from (after_semicolon parts) at (token ++ bytes) ≡ answer_from (in_name parts token) (at + length token) bytes
name_begins parts [] is at bytes = absurd cc
name_begins parts (b ∷ token) is at bytes =
    grind (arith, space_is_no_token b, bytes_go_on is_token_byte (in_name parts) (λ done b is. rw is refl) token)

-- ---- the end of a token

-- Bytes that don't go on a token.
abbrev pub EndsToken : List ℕ → Type 0
EndsToken [] = ⊤
EndsToken (b ∷ bytes) = is_token_byte b ≡ false

-- After a subtype that ends, reading goes on as after the parts so far.
pub subtype_ends : (top sub : List ℕ) → IsToken sub → (at : ℕ) (bytes : List ℕ) → EndsToken bytes
    → answer_from (in_subtype top sub) at bytes ≡ answer_from (before_semicolon (record { top = top; sub = sub; pairs = [] })) at bytes
subtype_ends top [] is at bytes ends = absurd cc
subtype_ends top (s ∷ sub) is at [] ends = refl
subtype_ends top (s ∷ sub) is at (b ∷ bytes) ends = rw ends refl

-- After a value that ends, reading goes on as after the parts so far.
pub value_ends : (parts : Parts) (name value : List ℕ) → IsToken value → (at : ℕ) (bytes : List ℕ) → EndsToken bytes
    → answer_from (in_value parts name value) at bytes ≡ answer_from (before_semicolon (parts_with parts name value)) at bytes
value_ends parts name [] is at bytes ends = absurd cc
value_ends parts name (v ∷ value) is at [] ends = refl
value_ends parts name (v ∷ value) is at (b ∷ bytes) ends = rw ends refl

-- ---- quoted content

-- What may go on in a quoted string goes on what was read of one.
pub on_open : (parts : Parts) (name run done : List ℕ) → takes_all (awaits_after false done) run ≡ true
    → (at : ℕ) (bytes : List ℕ) → answer_from (in_string parts name done) at (run ++ bytes)
    ≡ answer_from (in_string parts name (done ++ run)) (at + length run) bytes
on_open parts name [] done all at bytes = grind (arith, append-nil)
on_open parts name (b ∷ run) done all at bytes =
    grind (arith, on_open parts name run (done ++ (b ∷ [])), awaits_after-append, append_assoc)

-- Content goes on what was read of a quoted string, if no byte is paired before it.
pub on_content : {content : List ℕ} → IsContent content → (parts : Parts) (name done : List ℕ) → awaits_after false done ≡ false
    → (at : ℕ) (bytes : List ℕ) → answer_from (in_string parts name done) at (content ++ bytes)
    ≡ answer_from (in_string parts name (done ++ content)) (at + length content) bytes
on_content {content} is parts name done none at bytes = grind (arith, on_open, content-taken)

-- A quote ends it.
pub content_ends : {content : List ℕ} → IsContent content → (parts : Parts) (name : List ℕ)
    → next (in_string parts name content) 34 ≡ Some (before_semicolon (parts_with parts name content))
content_ends {content} is parts name = rw (content-closed content is) refl
