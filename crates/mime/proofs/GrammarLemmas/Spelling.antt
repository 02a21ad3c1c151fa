-- A walk spells what it walked: the text of a begun tree, and of the tree of a text that ends there.
use Rattle.std.proofs.Common.{arith, ◌≡◌, ℕ, Bool, true, List, [], ◌∷◌, ◌++◌, Some, None, refl, sym, ap, ◌∙◌, subst, append_assoc}
use Rattle.std.proofs.Common.{append-nil, rules}
use Rattle.std.proofs.lemmas.Bool.{and_from, cond_both}
use Rattle.std.proofs.lemmas.List.Folds.{list_all-append}
use Rattle.std.proofs.lemmas.Option.{same_Some, option_and_then_some, MatchOption-at_some}
use Rattle.std.proofs.lemmas.Grind.{common_steps}
use Rattle.std.specs.Prelude.{IsTrue, IsFalse, MatchOption, if◌then◌else◌, ◌==◌}
use Rattle.std.specs.{List.list_all, Option.option_map}
use Rattle.mime.specs.Bytes.{is_token_byte, slash_byte, semicolon_byte, equals_byte, quote_byte}
use Rattle.mime.specs.Grammar.{quoted, Parameters, more, listed, is_space, AreSpaces, text_of_parameter, text_of_list, text_of}
use Rattle.mime.specs.Grammar.{AreTokenBytes, IsToken, IsContent, IsParameter, AreParameters, IsWellFormed}
use Rattle.mime.specs.Inner.Quoted.{IsOpenContent, continues}
use Rattle.mime.proofs.GrammarLemmas.Content.{IsOpenContent-push, IsContent-closed}
use Rattle.mime.proofs.GrammarLemmas.Begun.{Closed, Begun, in_type, in_subtype, in_list, BegunList, ListState, in_spaces, in_name, in_value}
use Rattle.mime.proofs.GrammarLemmas.Begun.{in_quotes, after_quotes, list_at, grow, grow_state, grow_list, walk, walk_from, with_closed}
use Rattle.mime.proofs.GrammarLemmas.Begun.{list_at_end, tree_of}

-- ---- begun trees: their texts, and that each part is in its class

-- the text of the parameters that a semicolon closed
abbrev text_of_closed : Closed → List ℕ
text_of_closed [] = []
text_of_closed (item ∷ closed) = text_of_closed closed ++ (item.0 ++ (text_of_parameter item.1 ++ (semicolon_byte ∷ [])))

-- the text after the last semicolon
abbrev text_of_state : ListState → List ℕ
text_of_state (in_spaces n) = n
text_of_state (in_name n name) = n ++ name
text_of_state (in_value n name value) = n ++ (name ++ (equals_byte ∷ value))
text_of_state (in_quotes n name content) = n ++ (name ++ (equals_byte ∷ quote_byte ∷ content))
text_of_state (after_quotes n name content m) = n ++ text_of_parameter (quoted name content m)

-- the text after the subtype's semicolon
abbrev text_of_begun_list : BegunList → List ℕ
text_of_begun_list list = text_of_closed list.closed ++ text_of_state list.position

-- the text that led to a begun tree
abbrev pub text_of_begun : Begun → List ℕ
text_of_begun (in_type top) = top
text_of_begun (in_subtype top sub) = top ++ (slash_byte ∷ sub)
text_of_begun (in_list top sub list) = top ++ (slash_byte ∷ (sub ++ (semicolon_byte ∷ text_of_begun_list list)))

-- the parameters that a semicolon closed are well formed
abbrev AreClosed : Closed → Type 0
AreClosed [] = Unit {0}
AreClosed (item ∷ closed) = AreSpaces item.0 × IsParameter item.1 × AreClosed closed

-- the text after the last semicolon is well formed so far
abbrev pub IsState : ListState → Type 0
IsState (in_spaces n) = AreSpaces n
IsState (in_name n name) = AreSpaces n × IsToken name
IsState (in_value n name value) = AreSpaces n × IsToken name × AreTokenBytes value
IsState (in_quotes n name content) = AreSpaces n × IsToken name × IsOpenContent content
IsState (after_quotes n name content m) = AreSpaces n × IsToken name × IsContent content × AreSpaces m

-- a begun list that is well formed so far
pub record IsBegunList (list : BegunList) : Type 0 where
  pub closed : AreClosed list.closed
  pub position : IsState list.position

-- a type, a subtype and a begun list that are well formed so far
pub record IsBegunTail (t s : List ℕ) (begun : BegunList) : Type 0 where
  pub top : IsToken t
  pub sub : IsToken s
  pub list : IsBegunList begun

-- a begun tree that is well formed so far
abbrev pub IsBegun : Begun → Type 0
IsBegun (in_type top) = AreTokenBytes top
IsBegun (in_subtype top sub) = IsToken top × AreTokenBytes sub
IsBegun (in_list top sub list) = IsBegunTail top sub list

-- ---- a walk spells what it walked

-- Bytes of a class with one more byte of the class are of the class.
list_all-push : (class : ℕ → Bool) (xs : List ℕ) (b : ℕ) → IsTrue (list_all class xs) → IsTrue (class b)
    → IsTrue (list_all class (xs ++ (b ∷ [])))
list_all-push class xs b all passes = list_all-append class xs (b ∷ []) ∙ and_from _ _ all (and_from (class b) true passes refl)

-- A token with one more token byte is a token.
IsToken-push : (name : List ℕ) (b : ℕ) → IsToken name → IsTrue (is_token_byte b) → IsToken (name ++ (b ∷ []))
IsToken-push name b token passes = grind (arith, common_steps)

-- How a list with a first byte is joined, for `simp`, which doesn't compute it.
pub cons-append : (b : ℕ) (xs ys : List ℕ) → (b ∷ xs) ++ ys ≡ b ∷ (xs ++ ys)
cons-append b xs ys = refl

-- to group joined lists anew
pub ruleset regroup = (append_assoc, append-nil, cons-append)

-- A byte of a class leads on one way, a delimiter another.
pub by_class : {X : Type 0} (P : ℕ → X → Type 0) (class : ℕ → Bool) (other b : ℕ) (x y : X)
    → (IsTrue (class b) → P b x) → (IsFalse (class other) → P other y)
    → MatchOption (if class b then Some x else (if b == other then Some y else None)) (Unit {0}) (P b)
by_class P class other b x y passes stops = search rules

-- what one more byte makes of a begun list
abbrev Lengthens : List ℕ → ℕ → BegunList → Type 0
Lengthens text b next = IsBegunList next × (text_of_begun_list next ≡ text ++ (b ∷ []))

-- Well-formed parts make a begun list.
same_positions : {closed : Closed} {position : ListState} → AreClosed closed → IsState position
    → IsBegunList (list_at closed position)
same_positions before here = record { closed = before; position = here }

-- Each byte that may come at a state lengthens the text by itself.
grow_state-lengthens : (closed : Closed) (position : ListState) (b : ℕ) → AreClosed closed → IsState position
    → MatchOption (grow_state closed position b) (Unit {0}) (Lengthens (text_of_closed closed ++ text_of_state position) b)
grow_state-lengthens closed (in_spaces n) b before here =
    cond_both (is_space b) _ _ (λ o. MatchOption o (Unit {0}) (Lengthens (text_of_closed closed ++ n) b))
    (λ passes. (same_positions before (list_all-push is_space n b here passes), simp regroup))
    (λ fails. cond_both (is_token_byte b) _ _ (λ o. MatchOption o (Unit {0}) (Lengthens (text_of_closed closed ++ n) b))
    (λ passes. (same_positions before (here, and_from (is_token_byte b) true passes refl), simp regroup))
    (λ fails. tt))
grow_state-lengthens closed (in_name n name) b before here =
    by_class (Lengthens _) is_token_byte equals_byte b _ _
    (λ passes. (same_positions before (here.0, IsToken-push name b here.1 passes), simp regroup))
    (λ fails. (same_positions before (here.0, here.1, refl), simp regroup))
grow_state-lengthens closed (in_value n name []) b before here =
    by_class (Lengthens _) is_token_byte quote_byte b _ _
    (λ passes. (same_positions before (here.0, here.1, and_from (is_token_byte b) true passes refl), simp regroup))
    (λ fails. (same_positions before (here.0, here.1, refl), simp regroup))
grow_state-lengthens closed (in_value n name (v ∷ value)) b before here =
    by_class (Lengthens _) is_token_byte semicolon_byte b _ _
    (λ passes. (same_positions before (here.0, here.1, list_all-push is_token_byte (v ∷ value) b here.2 passes), simp regroup))
    (λ fails. (same_positions (here.0, (here.1, here.2), before) refl, simp regroup))
grow_state-lengthens closed (in_quotes n name content) b before here =
    by_class (Lengthens _) (continues content) quote_byte b _ _
    (λ passes. (same_positions before (here.0, here.1, IsOpenContent-push content b here.2 passes), simp regroup))
    (λ fails. (same_positions before (here.0, here.1, IsContent-closed content quote_byte here.2 fails refl, refl), simp regroup))
grow_state-lengthens closed (after_quotes n name content m) b before here =
    by_class (Lengthens _) is_space semicolon_byte b _ _
    (λ passes. (same_positions before (here.0, here.1, here.2, list_all-push is_space m b here.3 passes), simp regroup))
    (λ fails. (same_positions (here.0, (here.1, here.2, here.3), before) refl, simp regroup))

-- what one more byte makes of a begun tree
abbrev Grows : List ℕ → ℕ → Begun → Type 0
Grows text b next = IsBegun next × (text_of_begun next ≡ text ++ (b ∷ []))

-- Each byte that may come at a begun tree lengthens the text by itself.
grow-lengthens : (begun : Begun) (b : ℕ) → IsBegun begun → MatchOption (grow begun b) (Unit {0}) (Grows (text_of_begun begun) b)
grow-lengthens (in_type []) b here =
    cond_both (is_token_byte b) _ _ (λ o. MatchOption o (Unit {0}) (Grows [] b))
    (λ passes. (and_from (is_token_byte b) true passes refl, refl)) (λ fails. tt)
grow-lengthens (in_type (t ∷ top)) b here =
    by_class (Grows (t ∷ top)) is_token_byte slash_byte b _ _
    (λ passes. (list_all-push is_token_byte (t ∷ top) b here passes, refl)) (λ fails. ((here, refl), refl))
grow-lengthens (in_subtype top []) b here =
    cond_both (is_token_byte b) _ _ (λ o. MatchOption o (Unit {0}) (Grows (top ++ (slash_byte ∷ [])) b))
    (λ passes. ((here.0, and_from (is_token_byte b) true passes refl), simp regroup)) (λ fails. tt)
grow-lengthens (in_subtype top (s ∷ sub)) b here =
    by_class (Grows _) is_token_byte semicolon_byte b _ _
    (λ passes. ((here.0, list_all-push is_token_byte (s ∷ sub) b here.1 passes), simp regroup))
    (λ fails. (record { top = here.0; sub = here.1; list = same_positions tt refl }, simp regroup))
grow-lengthens (in_list top sub list) b here =
    elim (grow_list list b) as (λ o. MatchOption o (Unit {0}) (Lengthens (text_of_begun_list list) b)
    → MatchOption (option_map (in_list top sub) o) (Unit {0}) (Grows (text_of_begun (in_list top sub list)) b)) [
      | None ↦ λ longer. tt
      | Some next ↦ λ longer. (
        record { top = here.top; sub = here.sub; list = longer.0 },
        ap (λ t. top ++ (slash_byte ∷ (sub ++ (semicolon_byte ∷ t)))) longer.1 ∙ simp regroup,
      )
    ] (grow_state-lengthens list.closed list.position b here.list.closed here.list.position)

-- A walk spells the bytes that it passed.
pub walk_from-lengthens : (begun : Begun) (bytes : List ℕ) (last : Begun) → IsBegun begun
    → walk_from begun bytes ≡ Some last → IsBegun last × (text_of_begun last ≡ text_of_begun begun ++ bytes)
walk_from-lengthens begun [] last here walked =
    let same = same_Some begun last walked in
    (subst IsBegun same here, sym (ap text_of_begun same) ∙ sym (append-nil (text_of_begun begun)))
walk_from-lengthens begun (b ∷ bytes) last here walked =
    option_and_then_some (λ next. walk_from next bytes) (grow begun b) last walked
    (λ next grown goes.
    let longer = MatchOption-at_some (Unit {0}) (Grows (text_of_begun begun) b) next grown (grow-lengthens begun b here) in
    let after = walk_from-lengthens next bytes last longer.0 goes in
    (after.0, after.1 ∙ ap (λ t. t ++ bytes) longer.1 ∙ append_assoc (text_of_begun begun) (b ∷ []) bytes))

-- What is walked from the start of a text is well formed so far, and spells it.
pub begun-from_walk : (text : List ℕ) (begun : Begun) → walk text ≡ Some begun → IsBegun begun
begun-from_walk text begun walked = (walk_from-lengthens (in_type []) text begun refl walked).0

-- A walk from the start of a text spells the text.
pub spelled-from_walk : (text : List ℕ) (begun : Begun) → walk text ≡ Some begun → text_of_begun begun ≡ text
spelled-from_walk text begun walked = (walk_from-lengthens (in_type []) text begun refl walked).1

-- A text that ends in a subtype, cut after its slash.
pub text-in_subtype : (top sub : List ℕ) → (top ++ (slash_byte ∷ [])) ++ sub ≡ text_of_begun (in_subtype top sub)
text-in_subtype top sub = simp regroup

-- a text that ends in a value, cut after its equals sign: the text before that sign
abbrev pub before_equals : List ℕ → List ℕ → Closed → List ℕ → List ℕ → List ℕ
before_equals top sub closed n name = top ++ (slash_byte ∷ (sub ++ (semicolon_byte ∷ (text_of_closed closed ++ (n ++ name)))))

-- A text that ends in a value is the text before its equals sign, the sign, and the value.
pub text-in_value : (top sub : List ℕ) (closed : Closed) (n name value : List ℕ)
    → (before_equals top sub closed n name ++ (equals_byte ∷ [])) ++ value
    ≡ text_of_begun (in_list top sub (list_at closed (in_value n name value)))
text-in_value top sub closed n name value = simp regroup

-- ---- a tree that may end is spelled

-- A list with closed parameters has their text, and then that of the rest.
text_of_list-with_closed : (closed : Closed) (rest : Parameters)
    → text_of_list (with_closed closed rest) ≡ text_of_closed closed ++ text_of_list rest
text_of_list-with_closed [] rest = refl
text_of_list-with_closed (item ∷ closed) rest = text_of_list-with_closed closed (more item.0 item.1 rest) ∙ simp regroup

-- Closed parameters and the rest are a well-formed list if each is well formed.
AreParameters-with_closed : (closed : Closed) (rest : Parameters) → AreClosed closed → AreParameters rest
    → AreParameters (with_closed closed rest)
AreParameters-with_closed [] rest before here = here
AreParameters-with_closed (item ∷ closed) rest before here =
    AreParameters-with_closed closed (more item.0 item.1 rest) before.2 (before.0, before.1, here)

-- A list that ends in a state spells that state's text.
list_at_end-spelled : (position : ListState) → IsState position
    → MatchOption (list_at_end position) (Unit {0}) (λ rest. AreParameters rest × (text_of_list rest ≡ text_of_state position))
list_at_end-spelled position fine = search rules

-- The tree of a text that may end spells the text.
pub tree_of-spelled : (begun : Begun) → IsBegun begun
    → MatchOption (tree_of begun) (Unit {0}) (λ tree. IsWellFormed tree × (text_of tree ≡ text_of_begun begun))
tree_of-spelled (in_type top) here = tt
tree_of-spelled (in_subtype top []) here = tt
tree_of-spelled (in_subtype top (s ∷ sub)) here = ((here.0, here.1, tt), ap (λ t. top ++ (slash_byte ∷ t)) (append-nil (s ∷ sub)))
tree_of-spelled (in_list top sub list) here =
    elim (list_at_end list.position) as (λ o.
    MatchOption o (Unit {0}) (λ rest. AreParameters rest × (text_of_list rest ≡ text_of_state list.position))
    → MatchOption (option_map (λ rest. record { top = top; sub = sub; tail = listed rest }) (option_map (with_closed list.closed) o))
    (Unit {0}) (λ tree. IsWellFormed tree × (text_of tree ≡ text_of_begun (in_list top sub list)))) [
      | None ↦ λ ends. tt
      | Some rest ↦ λ ends. (
        (here.top, here.sub, AreParameters-with_closed list.closed rest here.list.closed ends.0),
        ap (λ t. top ++ (slash_byte ∷ (sub ++ (semicolon_byte ∷ t))))
            (text_of_list-with_closed list.closed rest ∙ ap (λ t. text_of_closed list.closed ++ t) ends.1),
      )
    ] (list_at_end-spelled list.position here.list.position)
