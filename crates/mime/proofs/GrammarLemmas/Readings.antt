-- What a walk says of its text: which tree spells it, and that no other does.
use Rattle.std.proofs.Common.{◌≡◌, ℕ, List, [], ◌∷◌, ◌++◌, Some, None, refl, sym, ap, ◌∙◌, append-nil, rules}
use Rattle.std.proofs.{lemmas.Bool.cond-false, lemmas.Option.same_Some, lemmas.Option.none-some, lemmas.Option.MatchOption-at_some}
use Rattle.std.specs.Option.{option_map}
use Rattle.mime.specs.Bytes.{is_token_byte, slash_byte, semicolon_byte, equals_byte, quote_byte}
use Rattle.mime.specs.Grammar.{Parameter, plain, quoted, Parameters, blank, final, more, Tail, no_list, listed, SyntaxTree, AreSpaces}
use Rattle.mime.specs.Grammar.{text_of_parameter, text_of_list, text_of, IsToken, IsContent, IsParameter, AreParameters, IsTail}
use Rattle.mime.specs.Grammar.{IsWellFormed}
use Rattle.mime.specs.Values.{MediaType, value_of, Reads, IsAccepted, IsRejected}
use Rattle.mime.specs.Inner.Quoted.{continues}
use Rattle.mime.proofs.GrammarLemmas.Content.{content-taken, content-closed}
use Rattle.mime.proofs.GrammarLemmas.Begun.{Closed, Begun, in_type, in_subtype, in_list, BegunList, ListState, in_spaces, in_name, in_value}
use Rattle.mime.proofs.GrammarLemmas.Begun.{in_quotes, after_quotes, begun_list, list_at, at_state, grow, grow_list, walk, walk_from}
use Rattle.mime.proofs.GrammarLemmas.Begun.{walk_list, with_closed, ended_list, tree_of, walk_by-step, walk_by-append_some}
use Rattle.mime.proofs.GrammarLemmas.Begun.{walk_from-in_list, walk-type, walk_from-subtype, walk_list-spaces, walk_list-name}
use Rattle.mime.proofs.GrammarLemmas.Begun.{walk_list-value, walk_list-open, walk_list-after_quotes}
use Rattle.mime.proofs.GrammarLemmas.Spelling.{text_of_begun, walk_from-lengthens, tree_of-spelled}

-- A text that is walked to a complete tree is spelled by it.
pub accepted-from_walk : (text : List ℕ) (begun : Begun) (tree : SyntaxTree)
    → walk text ≡ Some begun → tree_of begun ≡ Some tree → IsWellFormed tree × (text_of tree ≡ text)
accepted-from_walk text begun tree walked complete =
    let reached = walk_from-lengthens (in_type []) text begun refl walked in
    let found = MatchOption-at_some (Unit {0})
    (λ (t : SyntaxTree). IsWellFormed t × (text_of t ≡ text_of_begun begun)) tree complete (tree_of-spelled begun reached.0) in
    (found.0, found.1 ∙ reached.1)

-- ---- the text of a tree is walked to it

-- the state that a parameter at the end of a list leads to
abbrev state_of : List ℕ → Parameter → ListState
state_of n (plain name value) = in_value n name value
state_of n (quoted name content m) = after_quotes n name content m

-- the begun list that a parameter list after closed parameters leads to
abbrev begun_of : Closed → Parameters → BegunList
begun_of closed (blank n) = list_at closed (in_spaces n)
begun_of closed (final n parameter) = list_at closed (state_of n parameter)
begun_of closed (more n parameter rest) = begun_of ((n, parameter) ∷ closed) rest

-- The begun list that a parameter list leads to ends as that list.
ended_list-begun_of : (closed : Closed) (list : Parameters) → AreParameters list
    → ended_list (begun_of closed list) ≡ Some (with_closed closed list)
ended_list-begun_of closed (blank n) fine = refl
ended_list-begun_of closed (final n (plain name [])) fine = absurd (cc fine.1.1)
ended_list-begun_of closed (final n (plain name (v ∷ value))) fine = refl
ended_list-begun_of closed (final n (quoted name content m)) fine = refl
ended_list-begun_of closed (more n parameter rest) fine = ended_list-begun_of ((n, parameter) ∷ closed) rest fine.2

-- The walk over a name and its equals sign, after spaces.
walk_list-named : (closed : Closed) (n name rest : List ℕ) → IsToken name
    → walk_list (list_at closed (in_spaces n)) (name ++ (equals_byte ∷ rest)) ≡ walk_list (list_at closed (in_value n name [])) rest
unfolding is_token_byte
walk_list-named closed n name rest token =
    walk_by-append_some grow_list (list_at closed (in_spaces n)) (list_at closed (in_name n name)) name (equals_byte ∷ rest)
    (walk_list-name closed n name token)

-- The walk over a quoted value and the spaces after it leads behind its quotes.
walk_list-quoted : (closed : Closed) (n name content m : List ℕ) → IsContent content → AreSpaces m
    → walk_list (list_at closed (in_value n name [])) (quote_byte ∷ (content ++ (quote_byte ∷ m)))
    ≡ at_state closed (after_quotes n name content m)
unfolding is_token_byte
walk_list-quoted closed n name content m fine white =
    walk_by-append_some grow_list (list_at closed (in_quotes n name [])) (list_at closed (in_quotes n name content))
    content (quote_byte ∷ m) (walk_list-open closed n name [] content (content-taken content fine))
    ∙ walk_by-step grow_list (list_at closed (in_quotes n name content)) (list_at closed (after_quotes n name content [])) quote_byte m
    (cond-false (continues content quote_byte) _ _ (content-closed content fine))
    ∙ walk_list-after_quotes closed n name content [] m white

-- The walk over a parameter leads to the parameter's state.
walk_list-parameter : (closed : Closed) (n : List ℕ) (parameter : Parameter) → IsParameter parameter
    → walk_list (list_at closed (in_spaces n)) (text_of_parameter parameter) ≡ at_state closed (state_of n parameter)
walk_list-parameter closed n (plain name value) fine =
    walk_list-named closed n name value fine.0 ∙ walk_list-value closed n name value fine.1
walk_list-parameter closed n (quoted name content m) fine =
    walk_list-named closed n name (quote_byte ∷ (content ++ (quote_byte ∷ m))) fine.0
    ∙ walk_list-quoted closed n name content m fine.1 fine.2

-- The walk over the text of a list leads to the begun list.
walk_list-text : (closed : Closed) (list : Parameters) → AreParameters list
    → walk_list (list_at closed (in_spaces [])) (text_of_list list) ≡ Some (begun_of closed list)
unfolding is_token_byte
walk_list-text closed (blank n) fine = walk_list-spaces closed [] n fine
walk_list-text closed (final n parameter) fine =
    walk_by-append_some grow_list (list_at closed (in_spaces [])) (list_at closed (in_spaces n)) n (text_of_parameter parameter)
    (walk_list-spaces closed [] n fine.0) ∙ walk_list-parameter closed n parameter fine.1
walk_list-text closed (more n parameter rest) fine =
    walk_by-append_some grow_list (list_at closed (in_spaces [])) (list_at closed (in_spaces n))
    n (text_of_parameter parameter ++ (semicolon_byte ∷ text_of_list rest)) (walk_list-spaces closed [] n fine.0)
    ∙ walk_by-append_some grow_list (list_at closed (in_spaces n)) (list_at closed (state_of n parameter))
    (text_of_parameter parameter) (semicolon_byte ∷ text_of_list rest) (walk_list-parameter closed n parameter fine.1)
    ∙ walk_by-step grow_list (list_at closed (state_of n parameter)) (list_at ((n, parameter) ∷ closed) (in_spaces []))
    semicolon_byte (text_of_list rest) (search rules)
    ∙ walk_list-text ((n, parameter) ∷ closed) rest fine.2

-- The walk over a type and its slash leads to an empty subtype.
walk-slash : (top rest : List ℕ) → IsToken top → walk (top ++ (slash_byte ∷ rest)) ≡ walk_from (in_subtype top []) rest
unfolding is_token_byte
walk-slash [] rest token = absurd cc
walk-slash (t ∷ top) rest token =
    walk_by-append_some grow (in_type []) (in_type (t ∷ top)) (t ∷ top) (slash_byte ∷ rest) (walk-type (t ∷ top) token)

-- The walk over a type, a subtype and the semicolon leads to a list.
pub walk-head : (top sub rest : List ℕ) → IsToken top → IsToken sub
    → walk (top ++ (slash_byte ∷ (sub ++ (semicolon_byte ∷ rest)))) ≡ walk_from (in_list top sub begun_list) rest
unfolding is_token_byte
walk-head top sub rest top_token sub_token =
    walk-slash top (sub ++ (semicolon_byte ∷ rest)) top_token
    ∙ walk_by-append_some grow (in_subtype top []) (in_subtype top sub) sub (semicolon_byte ∷ rest)
    (walk_from-subtype top sub sub_token)
    ∙ walk_by-step grow (in_subtype top sub) (in_list top sub begun_list) semicolon_byte rest (search rules)

-- The text of a well-formed tree is walked to that tree.
walk-text_of : (tree : SyntaxTree) → IsWellFormed tree
    → (begun : Begun) × ((walk (text_of tree) ≡ Some begun) × (tree_of begun ≡ Some tree))
walk-text_of tree well_formed = with_tail tree.tail well_formed.2
  where
    with_tail : (tail : Tail) → IsTail tail
        → (begun : Begun) × ((walk (text_of (record { top = tree.top; sub = tree.sub; tail = tail })) ≡ Some begun)
        × (tree_of begun ≡ Some (record { top = tree.top; sub = tree.sub; tail = tail })))
    with_tail no_list fine = (
      in_subtype tree.top tree.sub,
      (
        ap (λ sub. walk (tree.top ++ (slash_byte ∷ sub))) (append-nil tree.sub)
            ∙ walk-slash tree.top tree.sub well_formed.0 ∙ walk_from-subtype tree.top tree.sub well_formed.1,
        search rules,
      ),
    )
    with_tail (listed list) fine = (
      in_list tree.top tree.sub (begun_of [] list),
      (
        walk-head tree.top tree.sub (text_of_list list) well_formed.0 well_formed.1
            ∙ walk_from-in_list tree.top tree.sub begun_list (text_of_list list)
            ∙ ap (option_map (in_list tree.top tree.sub)) (walk_list-text [] list fine),
        ap (option_map (λ rest. record { top = tree.top; sub = tree.sub; tail = listed rest })) (ended_list-begun_of [] list fine),
      ),
    )

-- At most one well-formed tree spells a text.
pub one_tree : (first second : SyntaxTree) → IsWellFormed first → IsWellFormed second
    → text_of first ≡ text_of second → first ≡ second
one_tree first second fine fine_too same =
    let one = walk-text_of first fine in
    let two = walk-text_of second fine_too in
    let begun : one.0 ≡ two.0 = same_Some one.0 two.0 (sym one.1.0 ∙ ap walk same ∙ two.1.0) in
    same_Some first second (sym one.1.1 ∙ ap tree_of begun ∙ two.1.1)

-- A text is read as at most one value.
pub one_reading : (text : List ℕ) (first second : MediaType) → Reads text first → Reads text second → first ≡ second
one_reading text first second reads again =
    sym reads.valued
    ∙ ap value_of (one_tree reads.tree again.tree reads.well_formed again.well_formed (reads.spelled ∙ sym again.spelled))
    ∙ again.valued

-- An accepted text is walked to a tree.
pub walk-accepted : (text : List ℕ) → IsAccepted text
    → (begun : Begun) × (tree : SyntaxTree) × ((walk text ≡ Some begun) × (tree_of begun ≡ Some tree))
walk-accepted text accepted =
    let reads = accepted.1 in
    let found = walk-text_of reads.tree reads.well_formed in
    (found.0, reads.tree, (ap walk (sym reads.spelled) ∙ found.1.0, found.1.1))

-- A text that may not end where it ends is rejected.
pub rejected-from_walk : (text : List ℕ) (begun : Begun) → walk text ≡ Some begun → tree_of begun ≡ None → IsRejected text
rejected-from_walk text begun walked unfinished accepted =
    let found = walk-accepted text accepted in
    let same : found.0 ≡ begun = same_Some found.0 begun (sym found.2.0 ∙ walked) in
    none-some found.1 (sym unfinished ∙ ap tree_of (sym same) ∙ found.2.1)

-- A text that can't be walked is rejected.
pub stopped-from_walk : (text : List ℕ) → walk text ≡ None → IsRejected text
stopped-from_walk text stopped accepted =
    let found = walk-accepted text accepted in none-some found.0 (sym stopped ∙ found.2.0)
