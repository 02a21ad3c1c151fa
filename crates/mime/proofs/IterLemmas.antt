-- One call of a `MimeIter`: pieces are read up to the first that is an item, which is yielded.
use Rattle.std.proofs.Common.{◌≡◌, ℕ, ◌≤◌, true, false, List, [], length, Option, Some, None, Result, Ok, Err, refl, sym, ap, subst, arith}
use Rattle.std.proofs.Common.{Bor, ◌∷◌, rules}
use Rattle.std.specs.Prelude.{codes}
use Rattle.std.proofs.{lemmas.Bool.true≢false, lemmas.Option.none-some}
use Rattle.mime.specs.Values.{OwnedMedia, Reads}
use Rattle.mime.specs.Cut.{TakesSteps, Cut, CutItem, good}
use Rattle.mime.specs.Runs.{Iteration, GivesItem, IsNext}
use Rattle.mime.specs.Inner.BetweenCalls.{IsUnderWay, PassesOn, IsFound}
use Rattle.mime.specs.declared.iter.Bad.{Bad}
use Rattle.mime.specs.declared.iter.Bad.TheVariants.{Piece, NoMemory}
use Rattle.mime.specs.declared.iter.MimeIter.TheInside.{Inside}
use Rattle.mime.specs.declared.scan.Positions.{Positions}
use Rattle.mime.specs.Faults.{Explains}
use Rattle.mime.specs.CutLaws.{AreGiven, none_left, a_value, a_piece, no_memory, RunGivesCut, PrintedListComesBack, CommaContainsOnRuns}
use Rattle.mime.proofs.CutLemmas.Cuts.{empty-cut, takes-viable, has_cut, cut_unique}
use Rattle.mime.proofs.GrammarLemmas.Viability.{empty_is_viable}
use Rattle.mime.proofs.CutLemmas.Containment.{comma_contains, joined_comes_back}
use Rattle.mime.specs.declared.scan.fault.ParseError.TheVariants as error
use Rattle.std.specs.Iterator.{Drains}

-- ---- what is kept

-- what every `MimeIter` keeps
abbrev pub IsSound : Iteration → Type 0
IsSound i = IsUnderWay i.text i.left i.out_of_memory i.steps

-- pieces without an item were read since a call began
pub record IsLooking (old now : Iteration) : Type 0 where
  pub passed : PassesOn old.left now.left
  pub out_of_memory : now.out_of_memory ≡ old.out_of_memory
  pub text : now.text ≡ old.text
  pub still : old.left ≡ [] → now ≡ old
  pub less : length now.left ≤ length old.left
  pub more : old.steps ≤ now.steps

-- a `MimeIter` as contracts see it
abbrev pub seen : Inside → Iteration
seen i = record { text = i.text.now; left = i.left.now; out_of_memory = i.out_of_memory; steps = i.steps }

-- ---- the search

-- The search begins.
pub looking-first : (old : Iteration) → IsLooking old old
looking-first old = search (empty-cut, rules)

-- ---- a whole call

-- At the end of a run the steps are those of the text's cut.
sound-exact : (i : Iteration) → IsSound i → i.left ≡ [] → i.out_of_memory ≡ false → TakesSteps i.text i.steps
sound-exact i sound ended fed =
    let none : TakesSteps i.left 0 = subst (λ t. TakesSteps t 0) (sym ended) (takes-viable [] empty_is_viable) in
    subst (TakesSteps i.text) (omega arith) (sound.exact fed 0 none)

-- A call returns `None`.
pub next-none : (old new : Iteration) → IsFound old None new → IsNext old None new
next-none old new found = search (sound-exact, rules)

-- A call returns the item of the piece that was found.
next-some : (old now new : Iteration) (piece : Bor (List ℕ) × Option Positions) (given : Result OwnedMedia Bad)
    → IsFound old (Some piece) now
    → IsSound new → new.text ≡ now.text → new.steps ≡ now.steps → GivesItem old (Some given) new → IsNext old (Some given) new
next-some old now new piece given found sound text steps item = search (sound-exact, none-some, rules)

-- A call returns a bad piece.
pub next-bad : (old new : Iteration) (piece : Bor (List ℕ)) → IsFound old (Some (piece, None)) new
    → IsNext old (Some (Err (Piece piece))) new
next-bad old new piece found =
    next-some old new new (piece, None) (Err (Piece piece)) found found.sound refl refl (found.gives.0, found.out_of_memory)

-- A call returns a media type.
pub next-good : (old new : Iteration) (piece : Bor (List ℕ)) (positions : Positions) (mime : OwnedMedia)
    → IsFound old (Some (piece, Some positions)) new → Reads piece.now mime.media
    → (piece.now ≡ codes "*/*" → mime.fixed ≡ true) → IsNext old (Some (Ok mime)) new
next-good old new piece positions mime found reads star =
    next-some old new new (piece, Some positions) (Ok mime) found found.sound refl refl
    (piece.now, found.gives.0.1 mime.media reads, star, found.out_of_memory)

-- A call returns `NoMemory`, which ends the run.
pub next-out_of_memory : (old now new : Iteration) (piece : Bor (List ℕ)) (positions : Positions)
    → IsFound old (Some (piece, Some positions)) now → Explains piece.now error.NoMemory
    → new ≡ record now { left = []; out_of_memory = true } → IsNext old (Some (Err NoMemory)) new
next-out_of_memory old now new piece positions found (value, reads, long) is =
    let others = has_cut now.left in
    next-some old now new (piece, Some positions) (Err NoMemory) found
    (subst IsSound (sym is) (record { few = omega (arith, found.sound.few); exact = λ fed n takes. absurd (true≢false fed) }))
    (ap (λ (i : Iteration). i.text) is) (ap (λ (i : Iteration). i.steps) is) (
      (piece.now, value, others.items, others.rest, found.gives.0.1 value reads others.items others.rest others.cut, long),
      ap (λ (i : Iteration). i.left) is,
      ap (λ (i : Iteration). i.out_of_memory) is,
    )

-- Nothing is given after an end.
given_ended : (first : Iteration) (given : List (Result OwnedMedia Bad)) → first.left ≡ [] → Drains IsNext first given
    → given ≡ []
given_ended first [] ended drains = refl
given_ended first (item ∷ given) ended (end, (last, (next, step, others), none)) = absurd (none-some item (sym (step.stays ended).0))

-- The cut whose items a run yields.
run_items : (first : Iteration) (given : List (Result OwnedMedia Bad)) → Drains IsNext first given
    → (items : List CutItem) × (rest : List ℕ) × Cut first.left items rest × AreGiven given items
run_items first [] (end, (last, same, none)) =
    let has = none.item.0 in ([], has.0, subst (λ (i : Iteration). Cut i.left [] has.0) (sym same) has.1, none_left)
run_items first (Ok mime ∷ given) (end, (last, (next, step, others), none)) =
    let (items, rest, cut, are) = run_items next given (end, (last, others, none)) in
    (_, rest, step.item.1 items rest cut, a_value mime step.item.0 given items are)
run_items first (Err (Piece p) ∷ given) (end, (last, (next, step, others), none)) =
    let (items, rest, cut, are) = run_items next given (end, (last, others, none)) in
    (_, rest, step.item.0 items rest cut, a_piece p given items are)
run_items first (Err NoMemory ∷ given) (end, (last, (next, step, others), none)) =
    let (piece, value, items, rest, cut, long) = step.item.0 in
    let ended = given_ended next given step.item.1 (end, (last, others, none)) in
    let are = no_memory piece value items long in
    (_, rest, cut, subst (λ g. AreGiven (Err NoMemory ∷ g) (good piece value ∷ items)) (sym ended) are)

-- A whole run yields the items of the cut.
pub run_gives_cut : RunGivesCut
run_gives_cut first given drains items rest cut =
    let (own, end, found, are) = run_items first given drains in
    subst (AreGiven given) (cut_unique first.left items rest cut own end found).0 are

-- A run over a text with a comma yields the items before it, the rest, and the items after it.
pub comma_contains_on_runs : CommaContainsOnRuns
comma_contains_on_runs before after items others rest end cut closed follows first given is drains =
    search (run_gives_cut, comma_contains, rules)

-- A printed list yields its values again.
pub printed_list_comes_back : PrintedListComesBack
printed_list_comes_back values are first given is drains = search (run_gives_cut, joined_comes_back, rules)
