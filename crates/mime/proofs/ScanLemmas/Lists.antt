-- A text's type, subtype and parameter list as the scanner passes them: each part leads on from where the last one ended.
use Rattle.std.proofs.Common.{◌≡◌, ℕ, ◌+◌, true, List, [], ◌∷◌, length, Option, Some, None, MatchOption, refl, sym, subst, ◌≢◌, ◌≤◌, ap}
use Rattle.std.proofs.Common.{◌∙◌, arith, eq-eqb, rules}
use Rattle.std.specs.Prelude.{IsFalse, Bool, if◌then◌else◌, ◌==◌}
use Rattle.std.specs.Option.{option_to_list}
use Rattle.std.proofs.lemmas.Bool.{and_from, cond-true, cond-false}
use Rattle.mime.specs.Bytes.{is_token_byte, quote_byte, semicolon_byte}
use Rattle.mime.specs.Values.{last_plus}
use Rattle.mime.specs.Inner.Remaining.{Remaining}
use Rattle.mime.specs.declared.scan.Positions.{Positions}
use Rattle.mime.specs.declared.scan.Scanned.{Scanned}
use Rattle.mime.specs.Inner.Scanning.{Given, GivesFirst, Passes, positions_of, before_list, ScansList, Scans, PassesContent}
use Rattle.mime.specs.Grammar.{is_space, Parameter, plain, quoted}
use Rattle.mime.specs.Inner.Quoted.{continues}
use Rattle.mime.proofs.GrammarLemmas.Begun.{in_type, in_subtype, in_list, begun_list, walk-type, ListState, in_spaces, in_name, in_value}
use Rattle.mime.proofs.GrammarLemmas.Begun.{in_quotes, after_quotes, BegunList, grow_state, grow_list, close, walk_by-step}
use Rattle.mime.proofs.GrammarLemmas.Begun.{walk_list-spaces, walk_list-name, walk_list-value, walk_list-open, walk_list-after_quotes}
use Rattle.mime.proofs.ScanLemmas.Passing.{given_then, given_whole, given_sum}
use Rattle.mime.proofs.GrammarLemmas.Spelling.{walk_from-lengthens}
use Rattle.mime.proofs.ScanLemmas.Verdicts.{Leads, positions_of_list, ListLeads, list_run, list_byte}
use Rattle.mime.proofs.BytesLemmas.{quote_is_no_token, semicolon_is_no_token}

-- Nothing was walked yet.
pub none_walked : {old new : Remaining} {first : Option ℕ} → GivesFirst old new first → Leads (in_type []) old new first (in_type [])
none_walked g = record { run = []; given = g.0; walked = refl }

-- A type was walked.
pub type_walked : {old mid new : Remaining} {b : ℕ} {stop : Option ℕ} → GivesFirst old mid (Some b) → is_token_byte b ≡ true
    → (q : Passes is_token_byte mid new stop) → Leads (in_type []) old new stop (in_type (b ∷ q.run))
type_walked {b = b} g f q = record {
  run = b ∷ q.run;
  given = given_then (given_whole g.0) q.given;
  walked = walk-type (b ∷ q.run) (and_from _ _ f q.of_class);
}

-- the subtype was passed, with the byte after it, if any
pub record Subtyped (top : List ℕ) (b : ℕ) (plus : Option ℕ) (old now : Remaining) (stop : Option ℕ) : Type 0 where
  pub others : List ℕ
  pub walked : Leads (in_type []) old now stop (in_subtype top (b ∷ others))
  pub stopped : MatchOption stop (now.left ≡ []) (λ c. IsFalse (is_token_byte c))
  pub plussed : plus ≡ last_plus (length top + 2) others
  pub counted : now.count ≡ old.count + (length top + 2 + length others + length (option_to_list stop))

-- the positions of a text that ends in its subtype
abbrev essence_positions : ℕ → Option ℕ → Positions
essence_positions slash plus = record { slash = slash; plus = plus; semicolon = None; pair_count = 0 }

-- The positions of a text that ends in its subtype are those of its parts.
pub essence_is : (slash : ℕ) (plus : Option ℕ) (top others : List ℕ) → slash ≡ length top
    → plus ≡ last_plus (length top + 2) others
    → essence_positions slash plus ≡ essence_positions (length top) (last_plus (length top + 2) others)
essence_is slash plus top others e f = rw (e, f)

-- The answer on the list is the answer on the text.
pub scans_list : {old mid new : Remaining} {top sub : List ℕ} {before : Positions} {verdict : Scanned}
    → Leads (in_type []) old mid None (in_list top sub begun_list) → before ≡ positions_of (before_list top sub)
    → ScansList before mid new verdict → Scans old new verdict
scans_list {old} {mid} {top = top} {sub = sub} r e scans =
    let found = walk_from-lengthens (in_type []) r.run (in_list top sub begun_list) refl r.walked in
    scans old top sub found.0.top found.0.sub e (subst (λ run. Given old mid run None) (sym found.1) r.given)

-- the loop before a parameter: some are closed, and each took a byte of those that were left
pub record Turn (before positions : Positions) (old now : Remaining) : Type 0 where
  pub closed : List (List ℕ × Parameter)
  pub walked : ListLeads old now None (record { closed = closed; position = in_spaces [] })
  pub same_positions : positions ≡ record before { pair_count = before.pair_count + (length closed + 0) }
  pub room : length closed + length now.left ≤ length old.left

-- One parameter more is counted.
pub one_pair_more : (before positions : Positions) (n : ℕ) → positions ≡ record before { pair_count = before.pair_count + (n + 0) }
    → record positions { pair_count = positions.pair_count + 1 } ≡ record before { pair_count = before.pair_count + (n + 1) }
one_pair_more before positions n e = rw e (ap (λ (count : ℕ). record before { pair_count = count }) (omega arith))

-- The spaces before a parameter were walked.
pub spaces_walked : {before positions : Positions} {old mid new : Remaining} {stop : Option ℕ}
    → (t : Turn before positions old mid) → (p : Passes is_space mid new stop)
    → ListLeads old new stop (record { closed = t.closed; position = in_spaces p.run })
spaces_walked t p = list_run t.walked p.given (walk_list-spaces t.closed [] p.run p.of_class)

-- A parameter's name was walked.
pub name_walked : {before positions : Positions} {old mid from new : Remaining} {b : ℕ} {stop : Option ℕ}
    → (t : Turn before positions old mid) → (p : Passes is_space mid from (Some b)) → is_token_byte b ≡ true
    → (q : Passes is_token_byte from new stop)
    → ListLeads old new stop (record { closed = t.closed; position = in_name p.run (b ∷ q.run) })
name_walked {b = b} t p f q =
    let first = cond-false (is_space b) _ _ p.stopped ∙ cond-true (is_token_byte b) _ _ f in
    list_run (list_byte (spaces_walked t p) first) q.given
    (sym (walk_by-step grow_list (record { closed = t.closed; position = in_spaces p.run }) _ b q.run first)
    ∙ walk_list-name t.closed p.run (b ∷ q.run) (and_from _ _ f q.of_class))

-- A parameter's quoted content was walked.
pub quotes_walked : {closed : List (List ℕ × Parameter)} {spaces name : List ℕ} {old mid from new : Remaining} {b : ℕ}
    {stop : Option ℕ}
    → ListLeads old mid None (record { closed = closed; position = in_value spaces name [] }) → GivesFirst mid from (Some b)
    → b ≡ quote_byte
    → (q : PassesContent from new stop) → ListLeads old new stop (record { closed = closed; position = in_quotes spaces name q.run })
quotes_walked {closed} {spaces} {name} {b = b} r g e q =
    list_run (list_byte (list_run r g.0 refl)
    (cond-false (is_token_byte b) _ _ (ap is_token_byte e ∙ quote_is_no_token) ∙ cond-true _ _ _ (eq-eqb b quote_byte e)))
    q.given (walk_list-open closed spaces name [] q.run q.of_class)

-- after the value of a parameter: the text may end here, or a semicolon close it
pub record Valued (closed : List (List ℕ × Parameter)) (spaces : List ℕ) (old mid now : Remaining) (stop : Option ℕ) : Type 0 where
  pub parameter : Parameter
  pub position : ListState
  pub walked : ListLeads old now stop (record { closed = closed; position = position })
  pub counted : (before : Positions) → positions_of_list before (record { closed = closed; position = position })
      ≡ Some (record before { pair_count = before.pair_count + (length closed + 1) })
  pub closing : grow_state closed position semicolon_byte ≡ close closed spaces parameter
  pub stopped : MatchOption stop (now.left ≡ []) (λ b. b ≢ semicolon_byte → grow_state closed position b ≡ None)
  pub less : length now.left ≤ length mid.left

-- A byte outside a class that goes on, and no semicolon, leads nowhere.
only_semicolon : (class : ℕ → Bool) (left : List ℕ) (stop : Option ℕ) (go closed : ℕ → Option BegunList)
    → MatchOption stop (left ≡ []) (λ b. IsFalse (class b)) → MatchOption stop (left ≡ [])
    (λ b. b ≢ semicolon_byte → (if class b then go b else (if b == semicolon_byte then closed b else None)) ≡ None)
only_semicolon class left stop go closed s = search rules

-- A plain value was walked.
pub valued_token : {closed : List (List ℕ × Parameter)} {spaces name : List ℕ} {old mid from new : Remaining} {b : ℕ}
    {stop : Option ℕ}
    → ListLeads old mid None (record { closed = closed; position = in_value spaces name [] }) → GivesFirst mid from (Some b)
    → is_token_byte b ≡ true → Passes is_token_byte from new stop → Valued closed spaces old mid new stop
valued_token {closed} {spaces} {name} {new = new} {b = b} {stop = stop} r g f q = record {
  parameter = plain name (b ∷ q.run);
  position = in_value spaces name (b ∷ q.run);
  walked = list_run r (given_then (given_whole g.0) q.given) (walk_list-value closed spaces name (b ∷ q.run) (and_from _ _ f q.of_class));
  counted = λ before. refl;
  closing = rw semicolon_is_no_token;
  stopped = only_semicolon is_token_byte new.left stop _ _ q.stopped;
  less = omega (arith, given_sum g.0, given_sum q.given);
}

-- A quoted value and the spaces after it were walked.
pub valued_quotes : {closed : List (List ℕ × Parameter)} {spaces name : List ℕ} {old mid from to new : Remaining} {b c : ℕ}
    {stop : Option ℕ}
    → ListLeads old mid None (record { closed = closed; position = in_value spaces name [] }) → GivesFirst mid from (Some b)
    → b ≡ quote_byte → PassesContent from to (Some c) → c ≡ quote_byte → Passes is_space to new stop
    → Valued closed spaces old mid new stop
valued_quotes {closed} {spaces} {name} {new = new} {c = c} {stop = stop} r g e q h p = record {
  parameter = quoted name q.run p.run;
  position = after_quotes spaces name q.run p.run;
  walked =
      list_run
      (list_byte (quotes_walked r g e q) (cond-false (continues q.run c) _ _ q.stopped ∙ cond-true _ _ _ (eq-eqb c quote_byte h)))
      p.given (walk_list-after_quotes closed spaces name q.run [] p.run p.of_class);
  counted = λ before. refl;
  closing = refl;
  stopped = only_semicolon is_space new.left stop _ _ p.stopped;
  less = omega (arith, given_sum g.0, given_sum q.given, given_sum p.given);
}
