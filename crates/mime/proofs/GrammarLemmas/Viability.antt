-- Which texts may still become a media type, and what such a text lacks, read off the begun tree that it is walked to.
use Rattle.std.proofs.Common.{◌≡◌, ℕ, false, Bool, suc, ◌+◌, ◌-◌, ◌<◌, List, [], ◌∷◌, ◌++◌, length, take, Option, Some, None, refl, sym, ap}
use Rattle.std.proofs.Common.{◌∙◌, subst, arith, append_assoc, append-nil, length-append, codes, rules}
use Rattle.std.proofs.Math.Seq.{take-append_seam, take-append-add, take-length}
use Rattle.std.proofs.lemmas.Bool.{cond-false, false≢true}
use Rattle.std.proofs.lemmas.Option.{none-some, option_and_then_some, slice_get_within}
use Rattle.std.specs.Prelude.{IsTrue, is_some}
use Rattle.std.specs.Option.{option_and_then, option_map}
use Rattle.mime.specs.Bytes.{is_token_byte, is_quoted_byte, quote_byte}
use Rattle.mime.specs.Grammar.{SyntaxTree}
use Rattle.mime.specs.Values.{value_of, IsAccepted, IsRejected}
use Rattle.mime.specs.Faults.{IsViable, IsLongest, IsLongestPrefix, Lacks, IsDeadAt, IsFault}
use Rattle.mime.specs.Laws.{EmptyIsViable, PrefixOfViableIsViable, AcceptedIsViable}
use Rattle.mime.specs.declared.scan.fault.ParseError.{ParseError}
use Rattle.mime.specs.declared.scan.fault.ParseError.TheVariants.{InvalidToken}
use Rattle.mime.specs.Inner.Quoted.{takes_all, awaits_after, continues}
use Rattle.mime.proofs.GrammarLemmas.Begun.{Closed, Begun, in_type, in_subtype, in_list, ListState, in_name, in_value, in_quotes, list_at}
use Rattle.mime.proofs.GrammarLemmas.Begun.{grow, walk, walk_from, tree_of, lacking, lacking_list, walk_by-step, walk_by-append}
use Rattle.mime.proofs.GrammarLemmas.Begun.{walk_by-append_some, walk_from-in_list, walk_list-open}
use Rattle.mime.proofs.GrammarLemmas.Content.{takes_all-any, closed-letter}
use Rattle.mime.proofs.GrammarLemmas.Spelling.{before_equals, spelled-from_walk, text-in_value}
use Rattle.mime.proofs.GrammarLemmas.Readings.{accepted-from_walk, walk-accepted, stopped-from_walk}
use Rattle.mime.proofs.BytesLemmas.{slice_get-prefix}

-- An option is none or some.
pub by_option : {X P : Type 0} (o : Option X) → (o ≡ None → P) → ((x : X) → o ≡ Some x → P) → P
by_option o none some = search rules

-- ---- what may still become a media type

-- A text that is walked to a complete tree is accepted.
pub accepted-from_complete : (text : List ℕ) (begun : Begun) (tree : SyntaxTree) → walk text ≡ Some begun
    → tree_of begun ≡ Some tree → IsAccepted text
accepted-from_complete text begun tree walked complete =
    let found = accepted-from_walk text begun tree walked complete in
    (value_of tree, record { tree = tree; well_formed = found.0; spelled = found.1; valued = refl })

-- whether a continuation leads from a begun tree to a complete one
abbrev pub completes : Begun → List ℕ → Bool
completes begun more = is_some (option_and_then tree_of (walk_from begun more))

-- A continuation that does makes the text an accepted one.
accepted-from_completes : (text more : List ℕ) (begun : Begun) → walk text ≡ Some begun → IsTrue (completes begun more)
    → IsAccepted (text ++ more)
accepted-from_completes text more begun walked passes =
    by_option (option_and_then tree_of (walk_from begun more))
    (λ none. absurd (false≢true (sym (ap (λ o. is_some o) none) ∙ passes)))
    (λ tree same.
    option_and_then_some tree_of (walk_from begun more) tree same
    (λ last goes complete.
    accepted-from_complete (text ++ more) last tree (walk_by-append_some grow (in_type []) begun text more walked ∙ goes) complete))

-- What makes a walked text an accepted one completes its begun tree.
pub completes-from_accepted : (text more : List ℕ) (begun : Begun) → walk text ≡ Some begun → IsAccepted (text ++ more)
    → IsTrue (completes begun more)
completes-from_accepted text more begun walked accepted =
    let found = walk-accepted (text ++ more) accepted in
    ap (λ o. is_some (option_and_then tree_of o)) (sym (walk_by-append_some grow (in_type []) begun text more walked) ∙ found.2.0)
    ∙ ap (λ o. is_some o) found.2.1

-- What an open quoted value takes leaves it open.
pub walk_from-open : (top sub : List ℕ) (closed : Closed) (n name content more : List ℕ)
    → IsTrue (takes_all (awaits_after false content) more)
    → walk_from (in_list top sub (list_at closed (in_quotes n name content))) more
    ≡ Some (in_list top sub (list_at closed (in_quotes n name (content ++ more))))
walk_from-open top sub closed n name content more all = search (in_list, in_quotes, list_at, walk_from-in_list, walk_list-open, rules)

-- A letter and a quote complete an open quoted value.
completes-open_quotes : (top sub : List ℕ) (closed : Closed) (n name content : List ℕ)
    → IsTrue (completes (in_list top sub (list_at closed (in_quotes n name content))) (codes "x\""))
unfolding is_quoted_byte
completes-open_quotes top sub closed n name content =
    ap (λ o. is_some (option_and_then tree_of o)) (walk_by-append_some grow (in_list top sub (list_at closed (in_quotes n name content)))
    (in_list top sub (list_at closed (in_quotes n name (content ++ (120 ∷ []))))) (120 ∷ []) (quote_byte ∷ [])
    (walk_from-open top sub closed n name content (120 ∷ []) (takes_all-any (awaits_after false content) (120 ∷ []) refl)))
    ∙ ap (λ o. is_some (option_and_then tree_of (option_and_then (λ next. walk_from next []) (option_map (in_list top sub) o))))
    (cond-false (continues (content ++ (120 ∷ [])) quote_byte) _ _ (closed-letter content))

-- A text that may not end where it ends lacks what the state at its end says.
pub lacks-from_walk : (text : List ℕ) (begun : Begun) → walk text ≡ Some begun → tree_of begun ≡ None
    → Lacks text (lacking begun)
unfolding is_token_byte
lacks-from_walk text (in_type []) walked unfinished = (accepted-from_completes text (codes "x/x") (in_type []) walked refl, tt)
lacks-from_walk text (in_type (t ∷ top)) walked unfinished =
    (accepted-from_completes text (codes "x/x") (in_type (t ∷ top)) walked refl, tt)
lacks-from_walk text (in_subtype top []) walked unfinished = (
  accepted-from_completes text (codes "x") (in_subtype top []) walked refl,
  (top, sym (spelled-from_walk text (in_subtype top []) walked)),
)
lacks-from_walk text (in_subtype top (s ∷ sub)) walked unfinished = absurd (none-some _ (sym unfinished))
lacks-from_walk text (in_list top sub list) walked unfinished = at list.position list.closed walked unfinished
  where
    at : (position : ListState) (closed : Closed) → walk text ≡ Some (in_list top sub (list_at closed position))
        → tree_of (in_list top sub (list_at closed position)) ≡ None → Lacks text (lacking_list position)
    at (in_name n name) closed walked unfinished =
        (accepted-from_completes text (codes "=x") (in_list top sub (list_at closed (in_name n name))) walked refl, tt)
    at (in_value n name []) closed walked unfinished = (
      accepted-from_completes text (codes "x") (in_list top sub (list_at closed (in_value n name []))) walked refl,
      (
        before_equals top sub closed n name,
        sym (spelled-from_walk text _ walked) ∙ sym (text-in_value top sub closed n name []) ∙ append-nil _,
      ),
    )
    at (in_quotes n name content) closed walked unfinished = (
      accepted-from_completes text (codes "x\"") (in_list top sub (list_at closed (in_quotes n name content))) walked
          (completes-open_quotes top sub closed n name content),
      tt,
    )
    at other closed walked unfinished = absurd (none-some _ (sym unfinished))

-- A text with a completion is viable.
pub viable-from_lacks : (text : List ℕ) (fault : ParseError) → Lacks text fault → IsViable text
viable-from_lacks text fault lacks = search rules

-- An accepted text is viable.
pub accepted_is_viable : AcceptedIsViable
accepted_is_viable text accepted = ([], subst IsAccepted (sym (append-nil text)) accepted)

-- A text that can be walked is viable.
pub viable-from_walk : (text : List ℕ) (begun : Begun) → walk text ≡ Some begun → IsViable text
viable-from_walk text begun walked =
    by_option (tree_of begun)
    (λ unfinished. viable-from_lacks text (lacking begun) (lacks-from_walk text begun walked unfinished))
    (λ tree complete. accepted_is_viable text (accepted-from_complete text begun tree walked complete))

-- A text that can't be walked isn't viable.
not_viable-from_walk : (text : List ℕ) → walk text ≡ None → IsViable text → ⊥
not_viable-from_walk text stopped viable =
    stopped-from_walk (text ++ viable.0)
    (walk_by-append grow (in_type []) text viable.0 ∙ ap (option_and_then (λ next. walk_from next viable.0)) stopped)
    viable.1

-- A viable text can be walked.
pub walk-from_viable : (text : List ℕ) → IsViable text → (begun : Begun) × (walk text ≡ Some begun)
walk-from_viable text viable =
    by_option (walk text) (λ stopped. absurd (not_viable-from_walk text stopped viable)) (λ begun walked. (begun, walked))

-- The empty text is viable.
pub empty_is_viable : EmptyIsViable
empty_is_viable = viable-from_walk [] (in_type []) refl

-- Each prefix of a viable text is viable.
pub prefix_of_viable_is_viable : PrefixOfViableIsViable
prefix_of_viable_is_viable prefix more viable = (more ++ viable.0, subst IsAccepted (append_assoc prefix more viable.0) viable.1)

-- ---- the prefix

-- The whole text is its prefix if it can be walked.
pub whole_prefix-from_walk : (text : List ℕ) (begun : Begun) → walk text ≡ Some begun → IsLongestPrefix text (length text)
whole_prefix-from_walk text begun walked = search (viable-from_walk, take-length, rules)

-- The prefix ends before the first byte that leads nowhere.
pub prefix-from_walk : (prefix rest : List ℕ) (b : ℕ) (begun : Begun) → walk prefix ≡ Some begun → grow begun b ≡ None
    → IsLongestPrefix (prefix ++ (b ∷ rest)) (length prefix)
prefix-from_walk prefix rest b begun walked dead = record {
  within = omega (arith, length-append prefix (b ∷ rest));
  viable = subst IsViable (sym (take-append_seam prefix (b ∷ rest))) (viable-from_walk prefix begun walked);
  longest = λ n above within viable.
      let k = n - suc (length prefix) in
      let more : n ≡ length prefix + suc k = omega arith in
      let text : take n (prefix ++ (b ∷ rest)) ≡ prefix ++ (b ∷ take k rest) =
      ap (λ i. take i (prefix ++ (b ∷ rest))) more ∙ take-append-add prefix (b ∷ rest) (suc k) in
      not_viable-from_walk (prefix ++ (b ∷ take k rest)) (walk_by-append_some grow (in_type []) begun prefix (b ∷ take k rest) walked
      ∙ ap (option_and_then (λ next. walk_from next (take k rest))) dead) (subst IsViable text viable);
}

-- A text has at most one longest prefix of a kind.
pub prefix_unique : {Viable : List ℕ → Type 0} (text : List ℕ) (m n : ℕ) → IsLongest Viable text m → IsLongest Viable text n → m ≡ n
prefix_unique text m n first second =
    let not_below : ¬ (m < n) = λ below. first.longest n below second.within second.viable in
    let not_above : ¬ (n < m) = λ above. second.longest m above first.within first.viable in
    omega arith

-- ---- the fault

-- The fault of a text that goes on with a byte that leads nowhere.
pub dead-from_walk : (prefix rest : List ℕ) (b : ℕ) (begun : Begun) → walk prefix ≡ Some begun → grow begun b ≡ None
    → IsFault (prefix ++ (b ∷ rest)) (InvalidToken (length prefix) b)
dead-from_walk prefix rest b begun walked dead = search (prefix-from_walk, slice_get-prefix, rules)

-- A text with a byte at fault isn't viable.
pub not_viable-at_dead : (text : List ℕ) (pos byte : ℕ) → IsDeadAt text pos byte → ¬ (IsViable text)
not_viable-at_dead text pos byte dead viable =
    dead.prefix.longest (length text) (slice_get_within text pos byte dead.there) (omega arith)
    (subst IsViable (sym (take-length text)) viable)

-- A text with a byte at fault is rejected.
pub rejected-at_dead : (text : List ℕ) (pos byte : ℕ) → IsDeadAt text pos byte → IsRejected text
rejected-at_dead text pos byte dead accepted = not_viable-at_dead text pos byte dead (accepted_is_viable text accepted)

-- where a walk stops
pub record Stop (start : Begun) (text : List ℕ) : Type 0 where
  pub prefix : List ℕ
  pub byte : ℕ
  pub rest : List ℕ
  pub begun : Begun
  pub spelled : text ≡ prefix ++ (byte ∷ rest)
  pub walked : walk_from start prefix ≡ Some begun
  pub dead : grow begun byte ≡ None

-- A text that can't be walked has a first byte that leads nowhere.
pub stop-from_walk : (start : Begun) (text : List ℕ) → walk_from start text ≡ None → Stop start text
stop-from_walk start [] stopped = absurd (none-some start (sym stopped))
stop-from_walk start (b ∷ bytes) stopped =
    (elim (grow start b) as (λ o. grow start b ≡ o → option_and_then (λ next. walk_from next bytes) o ≡ None
    → Stop start (b ∷ bytes)) [
      | None ↦ λ dead stops.
          record { prefix = []; byte = b; rest = bytes; begun = start; spelled = refl; walked = refl; dead = dead }
      | Some next ↦ λ grown stops.
          let stop = stop-from_walk next bytes stops in
          record {
            prefix = b ∷ stop.prefix;
            byte = stop.byte;
            rest = stop.rest;
            begun = stop.begun;
            spelled = ap (λ t. b ∷ t) stop.spelled;
            walked = walk_by-step grow start next b stop.prefix grown ∙ stop.walked;
            dead = stop.dead;
          }
    ]) refl stopped

-- The byte where a walk stops is at fault.
pub dead-from_stop : (text : List ℕ) (stop : Stop (in_type []) text) → IsDeadAt text (length stop.prefix) stop.byte
dead-from_stop text stop =
    subst (λ t. IsDeadAt t (length stop.prefix) stop.byte) (sym stop.spelled)
    (dead-from_walk stop.prefix stop.rest stop.byte stop.begun stop.walked stop.dead)
