-- Calls of `next` for which each definition of a run is true, and others for which it is false: over `e`, `e,A/B`, `*/*` and long ones.
use Rattle.std.proofs.Common.{◌≡◌, ℕ, true, false, List, [], ◌∷◌, ◌++◌, length, Some, None, Result, Ok, Err, refl, sym, ap, subst, arith}
use Rattle.std.proofs.Common.{codes, Bor}
use Rattle.std.proofs.{lemmas.Bool.true≢false, lemmas.Option.none-some}
use Rattle.mime.specs.{Bytes.is_token_byte, Grammar.no_list, Values.MediaType, Values.OwnedMedia, Values.Reads, Cut.CutItem, Cut.good}
use Rattle.mime.specs.{Cut.bad, Cut.Cut, Cut.whole, Cut.goes_on, Runs.Iteration, Runs.IsFirstItem, Runs.FirstNeedsMemory, Runs.HasNoItem}
use Rattle.mime.specs.{Runs.GivesItem, Runs.IsNext, CutLaws.AreGiven, CutLaws.none_left, CutLaws.a_value, CutLaws.a_piece}
use Rattle.mime.specs.{CutLaws.no_memory, declared.iter.Bad.Bad, declared.iter.Bad.TheVariants.Piece}
use Rattle.mime.specs.{declared.iter.Bad.TheVariants.NoMemory}
use Rattle.mime_facts.proofs.{CutFacts.split_at_comma, CutFacts.e_is_viable, CutFacts.item_of_e, CutFacts.cut_of_list}
use Rattle.mime_facts.proofs.{CutFacts.rest_of_text, CutFacts.no_item_left_out, StandardFacts.media, StandardFacts.reads, ValueFacts.differ}
use Rattle.mime_facts.proofs.{ValueFacts.plain_value, ValueFacts.text_of_41, ValueFacts.text_of_40, ValueFacts.value_of_40}
use Rattle.mime_facts.proofs.{ValueFacts.reads_41, ValueFacts.reads_40, ValueFacts.reads_dropped}
use Rattle.mime.proofs.CutLemmas.Cuts.{cut_unique, takes_unique, takes-viable, empty-cut}

-- An iterator over a text, at its start and at its end.
abbrev begun : List ℕ → Iteration
begun text = record { text = text; left = text; out_of_memory = false; steps = 0 }

abbrev ended_run : List ℕ → ℕ → Iteration
ended_run text steps = record { text = text; left = []; out_of_memory = false; steps = steps }

-- The same, if memory ran out.
abbrev memory_ran_out : Iteration → Iteration
memory_ran_out i = record i { out_of_memory = true }

-- `*/*`, read.
abbrev star_value : MediaType
star_value = media (codes "*/*") 1 None [] (codes "*/*")

-- `*/*` is read as this value.
reads_star : Reads (codes "*/*") star_value
unfolding is_token_byte
reads_star = reads (codes "*") (codes "*") no_list (refl, refl, tt)

-- The first item of an accepted text's cut is the text, with its value.
only_item : (text : List ℕ) (value : MediaType) → Reads text value
    → (piece : List ℕ) (other : MediaType) (items : List CutItem) (rest : List ℕ)
    → Cut text (good piece other ∷ items) rest → (piece ≡ text) × (other ≡ value)
only_item text value reads piece other items rest cut =
    let is = (cut_unique _ _ _ (whole text value reads) _ _ cut).0 in (cc is, cc is)

-- ---- what is left

-- The first item of `e,A/B` is `e`, and not `A/B`.
first_items :
    IsFirstItem (codes "e,A/B") (bad (codes "e")) (codes "A/B") × ¬ (IsFirstItem (codes "e,A/B") (good (codes "A/B") plain_value) [])
first_items = (
  (λ items rest cut. goes_on _ _ _ _ (bad (codes "e") ∷ []) items rest split_at_comma item_of_e cut),
  λ first. no_item_left_out (first [] [] empty-cut),
)

-- `e` has no item, and `e,A/B` has one.
no_items : HasNoItem (codes "e") × ¬ (HasNoItem (codes "e,A/B"))
no_items = ((codes "e", rest_of_text), λ none. absurd (omega (arith, ap length (cut_unique _ _ _ cut_of_list _ _ none.1).0)))

-- A media type of 41 bytes needs memory.
needs_memory : FirstNeedsMemory text_of_41
needs_memory = (text_of_41, _, [], [], whole text_of_41 _ reads_41, omega arith)

-- A bad piece needs no memory.
bad_needs_none : ¬ (FirstNeedsMemory (codes "e,A/B"))
bad_needs_none needs = absurd (cc (cut_unique _ _ _ cut_of_list _ _ needs.4).0)

-- If 40 bytes of a media type are kept, it needs no memory.
forty_need_none : (text : List ℕ) → Reads text value_of_40 → ¬ (FirstNeedsMemory text)
forty_need_none text forty needs =
    absurd (omega (arith, needs.5, ap (λ (it : MediaType). length it.kept) (only_item text value_of_40 forty _ _ _ _ needs.4).1))

-- A media type of 40 bytes needs no memory, with a semicolon after it, too.
short_needs_none : ¬ (FirstNeedsMemory text_of_40) × ¬ (FirstNeedsMemory (text_of_40 ++ codes ";"))
short_needs_none = (forty_need_none text_of_40 reads_40, forty_need_none (text_of_40 ++ codes ";") reads_dropped)

-- ---- a call

-- An item that is read from `*/*` is fixed.
star_is_fixed : (old new : Iteration) → old.left ≡ codes "*/*" → new.left ≡ [] → (mime : OwnedMedia)
    → GivesItem old (Some (Ok mime)) new → mime.fixed ≡ true
star_is_fixed old new at end mime (piece, first, star, same) =
    let cut = first [] [] (subst (λ l. Cut l [] []) (sym end) empty-cut) in
    star (only_item (codes "*/*") star_value reads_star _ _ _ _ (subst (λ t. Cut t (good piece mime.media ∷ []) []) at cut)).0

-- That memory ran out is said if it did.
no_memory_is_told : ¬ (GivesItem (begun (codes "A/B")) (Some (Err NoMemory)) (ended_run (codes "A/B") 3))
no_memory_is_told given = true≢false (sym given.2)

-- It is said only then: not if nothing is yielded, nor with a media type or a bad piece.
others_keep_memory : ¬ (GivesItem (begun (codes "e")) None (memory_ran_out (ended_run (codes "e") 1)))
    × ((mime : OwnedMedia) → ¬ (GivesItem (begun (codes "A/B")) (Some (Ok mime)) (memory_ran_out (ended_run (codes "A/B") 3))))
    × ((piece : Bor (List ℕ))
    → ¬ (GivesItem (begun (codes "e,A/B")) (Some (Err (Piece piece))) (memory_ran_out (begun (codes "A/B")))))
others_keep_memory = ((λ given. true≢false given.2), (λ mime given. true≢false given.3), λ piece given. true≢false given.1)

-- If none is given, or memory ran out, nothing is left.
nothing_is_left : ¬ (GivesItem (begun (codes "e")) None (begun (codes "e")))
    × ¬ (GivesItem (begun (codes "A/B")) (Some (Err NoMemory)) (memory_ran_out (begun (codes "A/B"))))
nothing_is_left = ((λ given. differ (codes "e") [] refl given.1), λ given. differ (codes "A/B") [] refl given.1)

-- None is given only if there is no item.
none_at_no_item : ¬ (GivesItem (begun (codes "e,A/B")) None (ended_run (codes "e,A/B") 5))
none_at_no_item given = no_items.1 given.0

-- Over `e` none is given, after one step.
ends_at_rest : IsNext (begun (codes "e")) None (ended_run (codes "e") 1)
ends_at_rest = record {
  item = (no_items.0, refl, refl);
  text = refl;
  more = omega arith;
  few = omega arith;
  exact = λ end fed. takes-viable (codes "e") e_is_viable;
  stays = λ end. absurd (differ (codes "e") [] refl end);
}

-- No fewer steps than before.
steps_dont_fall : ¬ (IsNext (record (begun (codes "e")) { steps = 2 }) None (ended_run (codes "e") 1))
steps_dont_fall next = absurd (omega (arith, next.more))

-- No more steps than bytes, even if memory ran out.
steps_are_few : ¬ (IsNext (record (begun (codes "a/")) { out_of_memory = true }) None
    (record (ended_run (codes "a/") 3) { out_of_memory = true }))
steps_are_few next = absurd (omega (arith, next.few))

-- At the end the steps are those of the text's cut.
steps_are_exact : ¬ (IsNext (begun (codes "e")) None (ended_run (codes "e") 0))
steps_are_exact next = absurd (omega (arith, takes_unique (codes "e") 0 1 (next.exact refl refl) (takes-viable (codes "e") e_is_viable)))

-- After the end none is given.
stays_ended : (reason : Bad) → ¬ (IsNext (ended_run (codes "e") 1) (Some (Err reason)) (ended_run (codes "e") 1))
stays_ended reason next = none-some _ (sym (next.stays refl).0)

-- The text stays.
text_stays : ¬ (IsNext (begun (codes "e")) None (ended_run (codes "f") 1))
text_stays next = differ (codes "f") (codes "e") refl next.text

-- What has ended stays as it is.
ended_stays : ¬ (IsNext (ended_run (codes "e") 1) None (ended_run (codes "e") 0))
ended_stays next = absurd (omega (arith, ap (λ (i : Iteration). i.steps) (next.stays refl).1))

-- ---- a whole run

-- A bad piece is given as itself.
gives_piece : (piece : Bor (List ℕ)) → piece.now ≡ codes "e" → AreGiven (Err (Piece piece) ∷ []) (bad (codes "e") ∷ [])
gives_piece piece is = subst (λ text. AreGiven (Err (Piece piece) ∷ []) (bad text ∷ [])) is (a_piece piece [] [] none_left)

-- A run that yields nothing has no items.
gives_all : (given : List (Result OwnedMedia Bad)) (items : List CutItem) → AreGiven given items → given ≡ [] → items ≡ []
gives_all given items none_left is = refl
gives_all given items other is = absurd cc

-- A run always yields a media type of which 40 bytes are kept.
gives_short : (given : List (Result OwnedMedia Bad)) (items : List CutItem) → AreGiven given items → given ≡ Err NoMemory ∷ []
    → (text : List ℕ) → items ≡ good text value_of_40 ∷ [] → ⊥
gives_short given items (no_memory piece other others long) is text short =
    let same : other ≡ value_of_40 = cc short in absurd (omega (arith, long, ap (λ (it : MediaType). length it.kept) same))
gives_short given items other is text short = absurd cc

-- A media type is given for a good piece with its value, and for nothing else.
gives_value : (given : List (Result OwnedMedia Bad)) (items : List CutItem) → AreGiven given items
    → (mime : OwnedMedia) (others : List (Result OwnedMedia Bad)) → given ≡ Ok mime ∷ others
    → (item : CutItem) (left : List CutItem) → items ≡ item ∷ left → (piece : List ℕ) × (item ≡ good piece mime.media)
gives_value given items (a_value read piece more rest are) mime others is item left of = (piece, cc)
gives_value given items other mime others is item left of = absurd cc
