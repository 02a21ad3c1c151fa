-- Begun trees: the states in which a text can end that may still become a media type, and how each
-- further byte changes the state.
use Rattle.std.specs.Prelude.{ℕ, List, [], ◌∷◌, ◌++◌, Option, Some, None, if◌then◌else◌, ◌==◌, IsTrue}
use Rattle.std.specs.{Option.option_and_then, Option.option_map, List.list_all}
use Rattle.mime.specs.Bytes.{is_token_byte, slash_byte, semicolon_byte, equals_byte, quote_byte}
use Rattle.mime.specs.Grammar.{Parameter, plain, quoted, Parameters, blank, final, more, no_list, listed, SyntaxTree, is_space, IsToken}
use Rattle.mime.specs.Inner.Quoted.{continues, awaits_next, takes_all, awaits_after}
use Rattle.mime.specs.declared.scan.fault.ParseError.{ParseError}
use Rattle.mime.specs.declared.scan.fault.ParseError.TheVariants.{MissingSlash, MissingSubtype, MissingEqual, MissingValue, MissingQuote}
use Rattle.std.proofs.Common.{◌≡◌, ℕ, false, Bool, List, [], ◌∷◌, ◌++◌, Option, Some, None, refl, sym, ap, ◌∙◌, subst, append_assoc}
use Rattle.std.proofs.Common.{append-nil, rules}
use Rattle.std.proofs.lemmas.Bool.{and_parts, cond-false, cond-true}
use Rattle.mime.proofs.{GrammarLemmas.Content.awaits_after-append, BytesLemmas.token_byte-not_space}

-- the state of a parameter list after its last semicolon
pub data ListState : Type 0 where
  in_spaces : (n : List ℕ) → ListState
  in_name : (n name : List ℕ) → ListState
  in_value : (n name value : List ℕ) → ListState
  in_quotes : (n name content : List ℕ) → ListState
  after_quotes : (n name content m : List ℕ) → ListState

-- the parameters that a semicolon closed, the last one first, each with the spaces before it
abbrev pub Closed : Type 0
Closed = List (List ℕ × Parameter)

-- a begun parameter list: its closed parameters and the state after them
pub record BegunList : Type 0 where
  pub closed : Closed
  pub position : ListState

-- the begun list just after the subtype's semicolon
abbrev pub begun_list : BegunList
begun_list = record { closed = []; position = in_spaces [] }

-- a begun tree: the text ends in its type, in its subtype, or in the list after them
pub data Begun : Type 0 where
  in_type : (top : List ℕ) → Begun
  in_subtype : (top sub : List ℕ) → Begun
  in_list : (top sub : List ℕ) → BegunList → Begun

-- the begun list of closed parameters and a state
abbrev pub list_at : Closed → ListState → BegunList
list_at closed position = record { closed = closed; position = position }

-- a list goes on in this state
abbrev pub at_state : Closed → ListState → Option BegunList
at_state closed position = Some (list_at closed position)

-- a semicolon closes a parameter, which spaces precede
abbrev pub close : Closed → List ℕ → Parameter → Option BegunList
close closed n parameter = at_state ((n, parameter) ∷ closed) (in_spaces [])

-- a state of a list after one more byte, or none where no accepted text goes on so
abbrev pub grow_state : Closed → ListState → ℕ → Option BegunList
grow_state closed (in_spaces n) b =
    if is_space b then at_state closed (in_spaces (n ++ (b ∷ [])))
    else (if is_token_byte b then at_state closed (in_name n (b ∷ [])) else None)
grow_state closed (in_name n name) b =
    if is_token_byte b then at_state closed (in_name n (name ++ (b ∷ [])))
    else (if b == equals_byte then at_state closed (in_value n name []) else None)
grow_state closed (in_value n name []) b =
    if is_token_byte b then at_state closed (in_value n name (b ∷ []))
    else (if b == quote_byte then at_state closed (in_quotes n name []) else None)
grow_state closed (in_value n name (v ∷ value)) b =
    if is_token_byte b then at_state closed (in_value n name (v ∷ value ++ (b ∷ [])))
    else (if b == semicolon_byte then close closed n (plain name (v ∷ value)) else None)
grow_state closed (in_quotes n name content) b =
    if continues content b then at_state closed (in_quotes n name (content ++ (b ∷ [])))
    else (if b == quote_byte then at_state closed (after_quotes n name content []) else None)
grow_state closed (after_quotes n name content m) b =
    if is_space b then at_state closed (after_quotes n name content (m ++ (b ∷ [])))
    else (if b == semicolon_byte then close closed n (quoted name content m) else None)

-- a begun list after one more byte, or none
abbrev pub grow_list : BegunList → ℕ → Option BegunList
grow_list list b = grow_state list.closed list.position b

-- a begun tree after one more byte, or none
abbrev pub grow : Begun → ℕ → Option Begun
grow (in_type []) b = if is_token_byte b then Some (in_type (b ∷ [])) else None
grow (in_type (t ∷ top)) b =
    if is_token_byte b then Some (in_type (t ∷ top ++ (b ∷ [])))
    else (if b == slash_byte then Some (in_subtype (t ∷ top) []) else None)
grow (in_subtype top []) b = if is_token_byte b then Some (in_subtype top (b ∷ [])) else None
grow (in_subtype top (s ∷ sub)) b =
    if is_token_byte b then Some (in_subtype top (s ∷ sub ++ (b ∷ [])))
    else (if b == semicolon_byte then Some (in_list top (s ∷ sub) begun_list) else None)
grow (in_list top sub list) b = option_map (in_list top sub) (grow_list list b)

-- a walk from a state: one step for each byte, or none where a step leads nowhere
abbrev walk_by : {S : Type 0} → (S → ℕ → Option S) → S → List ℕ → Option S
walk_by step state [] = Some state
walk_by step state (b ∷ bytes) = option_and_then (λ next. walk_by step next bytes) (step state b)

-- a walk from a begun list
abbrev pub walk_list : BegunList → List ℕ → Option BegunList
walk_list list bytes = walk_by grow_list list bytes

-- a walk from a begun tree
abbrev pub walk_from : Begun → List ℕ → Option Begun
walk_from begun bytes = walk_by grow begun bytes

-- the walk over a whole text, from its start
abbrev pub walk : List ℕ → Option Begun
walk text = walk_from (in_type []) text

-- the list of the closed parameters and then of the rest
abbrev pub with_closed : Closed → Parameters → Parameters
with_closed [] rest = rest
with_closed ((n, parameter) ∷ closed) rest = with_closed closed (more n parameter rest)

-- the parameter list that ends in a state, if it may end there
abbrev pub list_at_end : ListState → Option Parameters
list_at_end (in_spaces n) = Some (blank n)
list_at_end (in_name n name) = None
list_at_end (in_value n name []) = None
list_at_end (in_value n name (v ∷ value)) = Some (final n (plain name (v ∷ value)))
list_at_end (in_quotes n name content) = None
list_at_end (after_quotes n name content m) = Some (final n (quoted name content m))

-- the parameter list that ends as a begun list, if it may end there
abbrev pub ended_list : BegunList → Option Parameters
ended_list list = option_map (with_closed list.closed) (list_at_end list.position)

-- the syntax tree of a text that ends in a begun tree, if it may end there
abbrev pub tree_of : Begun → Option SyntaxTree
tree_of (in_type top) = None
tree_of (in_subtype top []) = None
tree_of (in_subtype top (s ∷ sub)) = Some (record { top = top; sub = s ∷ sub; tail = no_list })
tree_of (in_list top sub list) = option_map (λ rest. record { top = top; sub = sub; tail = listed rest }) (ended_list list)

-- what is missing from a text that ends too early, at a state of a list
abbrev pub lacking_list : ListState → ParseError
lacking_list (in_name n name) = MissingEqual
lacking_list (in_value n name value) = MissingValue
lacking_list position = MissingQuote

-- what is missing from a text that ends too early, in a begun tree
abbrev pub lacking : Begun → ParseError
lacking (in_type top) = MissingSlash
lacking (in_subtype top sub) = MissingSubtype
lacking (in_list top sub list) = lacking_list list.position

-- ---- by any step

-- A walk takes a step and goes on.
pub walk_by-step : {S : Type 0} (step : S → ℕ → Option S) (state next : S) (b : ℕ) (bytes : List ℕ) → step state b ≡ Some next
    → walk_by step state (b ∷ bytes) ≡ walk_by step next bytes
walk_by-step step state next b bytes taken = ap (option_and_then (λ s. walk_by step s bytes)) taken

-- A joined text is walked part by part.
pub walk_by-append : {S : Type 0} (step : S → ℕ → Option S) (state : S) (xs ys : List ℕ)
    → walk_by step state (xs ++ ys) ≡ option_and_then (λ next. walk_by step next ys) (walk_by step state xs)
walk_by-append step state [] ys = refl
walk_by-append step state (b ∷ xs) ys =
    elim (step state b) as (λ o. option_and_then (λ next. walk_by step next (xs ++ ys)) o
    ≡ option_and_then (λ next. walk_by step next ys) (option_and_then (λ next. walk_by step next xs) o))
    [ None ↦ refl | Some next ↦ walk_by-append step next xs ys ]

-- The walk goes on from where the first part led.
pub walk_by-append_some : {S : Type 0} (step : S → ℕ → Option S) (state next : S) (xs ys : List ℕ)
    → walk_by step state xs ≡ Some next → walk_by step state (xs ++ ys) ≡ walk_by step next ys
walk_by-append_some step state next xs ys e = walk_by-append step state xs ys ∙ ap (option_and_then (λ s. walk_by step s ys)) e

-- A state that each byte of a class lengthens takes a run of the class.
walk_by-run : {S : Type 0} (step : S → ℕ → Option S) (class : ℕ → Bool) (position : List ℕ → S)
    → ((taken : List ℕ) (b : ℕ) → IsTrue (class b) → step (position taken) b ≡ Some (position (taken ++ (b ∷ []))))
    → (taken run : List ℕ) → IsTrue (list_all class run) → walk_by step (position taken) run ≡ Some (position (taken ++ run))
walk_by-run step class position takes taken [] all = ap (λ t. Some (position t)) (sym (append-nil taken))
walk_by-run step class position takes taken (b ∷ run) all =
    let parts = and_parts (class b) (list_all class run) all in
    walk_by-step step (position taken) (position (taken ++ (b ∷ []))) b run (takes taken b parts.0)
    ∙ walk_by-run step class position takes (taken ++ (b ∷ [])) run parts.1
    ∙ ap (λ t. Some (position t)) (append_assoc taken (b ∷ []) run)

-- A token is walked, first its first byte and then the others.
walk_by-token : {S : Type 0} (step : S → ℕ → Option S) (start : S) (position : List ℕ → S)
    → ((b : ℕ) → IsTrue (is_token_byte b) → step start b ≡ Some (position (b ∷ [])))
    → ((b : ℕ) (taken : List ℕ) (c : ℕ) → IsTrue (is_token_byte c)
    → step (position (b ∷ taken)) c ≡ Some (position (b ∷ taken ++ (c ∷ []))))
    → (token : List ℕ) → IsToken token → walk_by step start token ≡ Some (position token)
walk_by-token step start position first others [] token = absurd cc
walk_by-token step start position first others (b ∷ run) token =
    let parts = and_parts (is_token_byte b) (list_all is_token_byte run) token in
    walk_by-step step start (position (b ∷ [])) b run (first b parts.0)
    ∙ walk_by-run step is_token_byte (λ taken. position (b ∷ taken)) (others b) [] run parts.1

-- ---- from a begun tree

-- After the subtype's semicolon the list alone is walked.
pub walk_from-in_list : (top sub : List ℕ) (list : BegunList) (xs : List ℕ)
    → walk_from (in_list top sub list) xs ≡ option_map (in_list top sub) (walk_list list xs)
walk_from-in_list top sub list [] = refl
walk_from-in_list top sub list (b ∷ xs) =
    elim (grow_list list b) as (λ o. option_and_then (λ next. walk_from next xs) (option_map (in_list top sub) o)
    ≡ option_map (in_list top sub) (option_and_then (λ next. walk_list next xs) o))
    [ None ↦ refl | Some next ↦ walk_from-in_list top sub next xs ]

-- A token is walked to a type.
pub walk-type : (top : List ℕ) → IsToken top → walk top ≡ Some (in_type top)
walk-type = walk_by-token grow (in_type []) in_type (λ b yes. cond-true _ _ _ yes) (λ b taken c yes. cond-true _ _ _ yes)

-- A token after the slash leads to a subtype.
pub walk_from-subtype : (top sub : List ℕ) → IsToken sub → walk_from (in_subtype top []) sub ≡ Some (in_subtype top sub)
walk_from-subtype top =
    walk_by-token grow (in_subtype top []) (in_subtype top) (λ b yes. cond-true _ _ _ yes) (λ b taken c yes. cond-true _ _ _ yes)

-- ---- within a list

-- Spaces go on after a semicolon.
pub walk_list-spaces : (closed : Closed) (n run : List ℕ) → IsTrue (list_all is_space run)
    → walk_list (list_at closed (in_spaces n)) run ≡ at_state closed (in_spaces (n ++ run))
walk_list-spaces closed = walk_by-run grow_list is_space (λ n. list_at closed (in_spaces n)) (λ n b yes. cond-true _ _ _ yes)

-- A token is walked to a parameter's name.
pub walk_list-name : (closed : Closed) (n name : List ℕ) → IsToken name
    → walk_list (list_at closed (in_spaces n)) name ≡ at_state closed (in_name n name)
walk_list-name closed n =
    walk_by-token grow_list (list_at closed (in_spaces n)) (λ name. list_at closed (in_name n name))
    (λ b yes. cond-false _ _ _ (token_byte-not_space b yes) ∙ cond-true _ _ _ yes) (λ b taken c yes. cond-true _ _ _ yes)

-- A token after the equals sign leads to a plain value.
pub walk_list-value : (closed : Closed) (n name value : List ℕ) → IsToken value
    → walk_list (list_at closed (in_value n name [])) value ≡ at_state closed (in_value n name value)
walk_list-value closed n name = search (walk_by-token, cond-true, rules)

-- Bytes that a quoted value takes go on in it.
pub walk_list-open : (closed : Closed) (n name taken run : List ℕ) → IsTrue (takes_all (awaits_after false taken) run)
    → walk_list (list_at closed (in_quotes n name taken)) run ≡ at_state closed (in_quotes n name (taken ++ run))
walk_list-open closed n name taken [] all = ap (λ t. at_state closed (in_quotes n name t)) (sym (append-nil taken))
walk_list-open closed n name taken (b ∷ run) all =
    let parts = and_parts (continues taken b) (takes_all (awaits_next (awaits_after false taken) b) run) all in
    walk_by-step grow_list (list_at closed (in_quotes n name taken)) (list_at closed (in_quotes n name (taken ++ (b ∷ [])))) b run
    (cond-true (continues taken b) _ _ parts.0) ∙ walk_list-open closed n name (taken ++ (b ∷ [])) run
    (subst (λ a. IsTrue (takes_all a run)) (sym (awaits_after-append false taken (b ∷ []))) parts.1)
    ∙ ap (λ t. at_state closed (in_quotes n name t)) (append_assoc taken (b ∷ []) run)

-- Spaces go on after a quoted value.
pub walk_list-after_quotes : (closed : Closed) (n name content m run : List ℕ) → IsTrue (list_all is_space run)
    → walk_list (list_at closed (after_quotes n name content m)) run ≡ at_state closed (after_quotes n name content (m ++ run))
walk_list-after_quotes closed n name content =
    walk_by-run grow_list is_space (λ m. list_at closed (after_quotes n name content m)) (λ m b yes. cond-true _ _ _ yes)
