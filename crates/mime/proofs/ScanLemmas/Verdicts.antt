-- The scanner's verdict where it stops: what was walked up to there, and what a text is that ends there.
use Rattle.std.proofs.Common.{◌≡◌, ℕ, ◌+◌, ◌-◌, List, [], ◌∷◌, ◌++◌, length, Option, Some, None, MatchOption, refl, ap, ◌∙◌, arith}
use Rattle.std.proofs.Common.{append-nil, rules}
use Rattle.std.specs.Option.{option_map}
use Rattle.std.proofs.lemmas.List.{take_at}
use Rattle.mime.specs.Grammar.{Parameter, Parameters, more, SyntaxTree, text_of}
use Rattle.mime.specs.Values.{pairs_of_list, IsRejected}
use Rattle.mime.specs.Inner.Remaining.{Remaining}
use Rattle.mime.specs.Inner.Scanning.{Given, positions_of, HasPositions, StopsAt, Judges, before_list, ScansList, Scans}
use Rattle.mime.specs.declared.scan.Positions.{Positions}
use Rattle.mime.specs.declared.scan.fault.ParseError.{ParseError}
use Rattle.mime.specs.declared.scan.Scanned.{Scanned}
use Rattle.mime.specs.declared.scan.Scanned.TheVariants.{Accepted, Unfinished, Stopped, Followed}
use Rattle.mime.proofs.GrammarLemmas.Begun.{Begun, in_type, in_list, BegunList, begun_list, grow, grow_list, walk, walk_from, walk_list}
use Rattle.mime.proofs.GrammarLemmas.Begun.{with_closed, list_at_end, tree_of, lacking, lacking_list, walk_by-append_some}
use Rattle.mime.proofs.GrammarLemmas.Begun.{walk_from-in_list}
use Rattle.mime.proofs.ScanLemmas.Passing.{given_then, given_whole}
use Rattle.mime.proofs.GrammarLemmas.Readings.{accepted-from_walk, rejected-from_walk, walk-head}
use Rattle.mime.proofs.GrammarLemmas.Viability.{lacks-from_walk, viable-from_walk, dead-from_walk}
use Rattle.mime.proofs.GrammarLemmas.Faults.{fault-from_lacks}

-- ---- what was walked

-- the bytes given lead from one begun tree to another; one byte more may have been given
pub record Leads (start : Begun) (old now : Remaining) (stop : Option ℕ) (begun : Begun) : Type 0 where
  pub run : List ℕ
  pub given : Given old now run stop
  pub walked : walk_from start run ≡ Some begun

-- One more run was given.
pub reaches_run : {start begun next : Begun} {old mid new : Remaining} {stop : Option ℕ} {run : List ℕ}
    → Leads start old mid None begun → Given mid new run stop → walk_from begun run ≡ Some next → Leads start old new stop next
reaches_run {start} {begun} {run = run} r g e = record {
  run = r.run ++ run;
  given = given_then r.given g;
  walked = walk_by-append_some grow start begun r.run run r.walked ∙ e;
}

-- The byte after a run was given.
pub reaches_byte : {start begun next : Begun} {old now : Remaining} {b : ℕ}
    → Leads start old now (Some b) begun → grow begun b ≡ Some next → Leads start old now None next
reaches_byte {start} {begun} {b = b} r e = record {
  run = r.run ++ b ∷ [];
  given = given_whole r.given;
  walked = walk_by-append_some grow start begun r.run (b ∷ []) r.walked ∙ rw e;
}

-- the bytes given lead from the start of a list to a begun list, after any type and subtype
abbrev pub ListLeads : Remaining → Remaining → Option ℕ → BegunList → Type 0
ListLeads old now stop list = (top sub : List ℕ) → Leads (in_list top sub begun_list) old now stop (in_list top sub list)

-- One more run in a list was given.
pub list_run : {list next : BegunList} {old mid new : Remaining} {stop : Option ℕ} {run : List ℕ}
    → ListLeads old mid None list → Given mid new run stop → walk_list list run ≡ Some next → ListLeads old new stop next
list_run {list} {run = run} r g e = λ top sub.
    reaches_run (r top sub) g (walk_from-in_list top sub list run ∙ ap (option_map (in_list top sub)) e)

-- The byte after a run in a list was given.
pub list_byte : {list next : BegunList} {old now : Remaining} {b : ℕ}
    → ListLeads old now (Some b) list → grow_list list b ≡ Some next → ListLeads old now None next
list_byte r e = λ top sub. reaches_byte (r top sub) (ap (option_map (in_list top sub)) e)

-- ---- a text that ends at a begun tree

-- the verdict at a byte that can't follow, or at the end
abbrev verdict_at : Option ℕ → Option Positions → ParseError → Scanned
verdict_at None None fault = Unfinished fault
verdict_at None (Some positions) fault = Accepted positions
verdict_at (Some b) None fault = Stopped b
verdict_at (Some b) (Some positions) fault = Followed positions b

-- A verdict at a byte says of the text what is known of it.
judges-stop : (text : List ℕ) (count b : ℕ) (positions : Option Positions) (fault : ParseError) → StopsAt text count b positions
    → Judges text count (verdict_at (Some b) positions fault)
judges-stop text count b positions fault stops = search rules

-- A text that is walked to a complete tree has that tree's positions.
has_positions : (text : List ℕ) (begun : Begun) (tree : SyntaxTree) → walk text ≡ Some begun → tree_of begun ≡ Some tree
    → HasPositions text (positions_of tree)
has_positions text begun tree w e =
    let found = accepted-from_walk text begun tree w e in
    record { tree = tree; well_formed = found.0; spelled = found.1; same_positions = refl }

-- A text that is walked is judged by the tree that it makes, if any.
judged : (text : List ℕ) (begun : Begun) (tree : Option SyntaxTree) → walk text ≡ Some begun → tree_of begun ≡ tree
    → Judges text (length text) (verdict_at None (option_map positions_of tree) (lacking begun))
judged text begun None w e = (refl, fault-from_lacks text _ (lacks-from_walk text begun w e), viable-from_walk text begun w)
judged text begun (Some tree) w e = (refl, has_positions text begun tree w e)

-- The text before a byte that leads nowhere is judged by the tree that it makes, if any.
judged_before : (text : List ℕ) (begun : Begun) (tree : Option SyntaxTree) → walk text ≡ Some begun → tree_of begun ≡ tree
    → MatchOption (option_map positions_of tree) (IsRejected text) (λ positions. HasPositions text positions)
judged_before text begun None w e = rejected-from_walk text begun w e
judged_before text begun (Some tree) w e = has_positions text begun tree w e

-- The scanner's answer where it stops, at the end or at a byte that leads nowhere.
pub scans_at : {old now : Remaining} {stop : Option ℕ} {begun : Begun} (positions : Option Positions)
    → Leads (in_type []) old now stop begun
    → MatchOption stop (now.left ≡ []) (λ b. grow begun b ≡ None) → positions ≡ option_map positions_of (tree_of begun)
    → Scans old now (verdict_at stop positions (lacking begun))
scans_at {old} {now} {stop = None} {begun} positions r end e =
    let bytes : old.left ≡ r.run = r.given.bytes ∙ ap (λ rest. r.run ++ rest) end ∙ append-nil r.run in
    let size : now.count - old.count ≡ length r.run = omega (arith, r.given.counted) in
    record { counted = omega (arith, r.given.counted); judged = rw (e, size, bytes) (judged r.run begun (tree_of begun) r.walked refl) }
scans_at {old} {now} {stop = Some b} {begun} positions r dead e =
    let size : now.count - old.count - 1 ≡ length r.run = omega (arith, r.given.counted) in
    record {
      counted = omega (arith, r.given.counted);
      judged = judges-stop _ _ b positions _ (
        omega (arith, r.given.counted),
        rw (size, r.given.bytes) (dead-from_walk r.run now.left b begun r.walked dead),
        rw (e, size, r.given.bytes, take_at r.run (b ∷ now.left) (length r.run) refl)
            (judged_before r.run begun (tree_of begun) r.walked refl),
      );
    }

-- ---- a text that ends at a begun list

-- How many pairs the closed parameters and the rest have.
length-with_closed : (closed : List (List ℕ × Parameter)) (rest : Parameters)
    → length (pairs_of_list (with_closed closed rest)) ≡ length closed + length (pairs_of_list rest)
length-with_closed [] rest = omega arith
length-with_closed ((n, parameter) ∷ closed) rest = length-with_closed closed (more n parameter rest) ∙ omega arith

-- the positions of a text that ends in a list, if it may end there, with those before the list
abbrev pub positions_of_list : Positions → BegunList → Option Positions
positions_of_list before list =
    option_map (λ rest. record before { pair_count = before.pair_count + (length list.closed + length (pairs_of_list rest)) })
    (list_at_end list.position)

-- The positions of a text that ends in a list are those of its tree.
positions_of_list-tree : (top sub : List ℕ) (list : BegunList)
    → positions_of_list (positions_of (before_list top sub)) list ≡ option_map positions_of (tree_of (in_list top sub list))
positions_of_list-tree top sub list = search (length-with_closed, with_closed, list_at_end, rules)

-- The scanner's answer on a list where it stops.
pub list_scans_at : {before : Positions} {old new : Remaining} {stop : Option ℕ} {list : BegunList} (positions : Option Positions)
    → ListLeads old new stop list → MatchOption stop (new.left ≡ []) (λ b. grow_list list b ≡ None)
    → positions ≡ positions_of_list before list → ScansList before old new (verdict_at stop positions (lacking_list list.position))
list_scans_at {new = new} {stop = stop} {list = list} positions r stopped e = λ start top sub top_token sub_token head_is given.
    let before : Leads (in_type []) start _ None (in_list top sub begun_list) = record {
      run = text_of (before_list top sub);
      given = given;
      walked = walk-head top sub [] top_token sub_token;
    } in
    scans_at positions (reaches_run before (r top sub).given (r top sub).walked) (search rules)
    (e ∙ ap (λ h. positions_of_list h list) head_is ∙ positions_of_list-tree top sub list)
