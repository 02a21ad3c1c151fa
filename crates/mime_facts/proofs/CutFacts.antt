-- Texts for which each definition of the cut is true, and others for which it is false: the list `e, a/b`.
use Rattle.std.proofs.Common.{◌≡◌, ℕ, true, false, List, [], ◌∷◌, length, map, refl, ap, subst, arith, codes}
use Rattle.std.proofs.lemmas.Bool.{true≢false, false≢true}
use Rattle.mime.specs.{Bytes.is_token_byte, Values.IsAccepted, Values.IsRejected, Faults.IsViable, Cut.is_following_byte}
use Rattle.mime.specs.{Cut.BeginsCharacter, Cut.IsCharacter, Cut.IsSplit, Cut.CutItem, Cut.good, Cut.bad, Cut.ItemsOf, Cut.is_read}
use Rattle.mime.specs.{Cut.is_rejected, Cut.is_empty, Cut.Cut, Cut.whole, Cut.unfinished, Cut.goes_on, Cut.Pieces, Cut.last, Cut.next}
use Rattle.mime.specs.{Cut.steps_of, Cut.TakesSteps, CutLaws.IsItem, CutLaws.text_of_pieces, CutLaws.items_of_rest, CutLaws.joined}
use Rattle.mime.specs.{CutLaws.IsRead, CutLaws.kept_item}
use Rattle.mime.proofs.{GrammarLemmas.Begun.in_type, CutLemmas.Cuts.empty-rejected, CutLemmas.Cuts.split-not_viable}
use Rattle.mime.proofs.{CutLemmas.Cuts.split-from_dead, CutLemmas.Cuts.split_unique, CutLemmas.Cuts.items_of_unique}
use Rattle.mime.proofs.{CutLemmas.Cuts.cut_unique, CutLemmas.Cuts.takes_unique, ValueLemmas.KeptText.kept_is_read}
use Rattle.mime.proofs.{GrammarLemmas.Readings.rejected-from_walk, GrammarLemmas.Viability.viable-from_walk}
use Rattle.mime.proofs.{GrammarLemmas.Viability.accepted_is_viable}
use Rattle.mime_facts.proofs.ValueFacts.{differ, plain_value, reads_capitals, keeps_no_capitals}

-- ---- characters

-- The bytes of UTF-8 that follow a character's first.
following_bytes : map is_following_byte (127 ∷ 128 ∷ 191 ∷ 192 ∷ []) ≡ false ∷ true ∷ true ∷ false ∷ []
following_bytes = refl

-- A text may begin a character, or in the middle of one.
beginnings : BeginsCharacter [] × BeginsCharacter (195 ∷ 169 ∷ []) × ¬ (BeginsCharacter (169 ∷ []))
beginnings = (tt, refl, λ is. true≢false is)

-- One character is all of its bytes, and no more.
characters :
    IsCharacter (195 ∷ 169 ∷ []) (codes "b") × ¬ (IsCharacter [] (codes "b")) × ¬ (IsCharacter (195 ∷ []) (169 ∷ []))
    × ¬ (IsCharacter (codes "ab") [])
characters = ((refl, refl), (λ is. is), (λ is. true≢false is.1), λ is. false≢true is.0)

-- ---- a list

-- `e,A/B` is `e`, the comma, and what follows it.
pub split_at_comma : IsSplit (codes "e,A/B") (codes "e") (codes ",") (codes "A/B")
unfolding is_token_byte
split_at_comma =
    split-from_dead (codes "e") (codes "A/B") 44 (in_type (codes "e"))
    (record { following = []; left = codes "A/B"; spelled = refl; of_class = refl; begins = refl }) refl refl

-- `e,A/B` is split nowhere else.
split_nowhere_else : ¬ (IsSplit (codes "e,A/B") [] (codes "e") (codes ",A/B"))
split_nowhere_else is = differ [] (codes "e") refl (split_unique _ _ _ _ _ _ _ is split_at_comma).piece

-- `e` is rejected.
pub e_is_rejected : IsRejected (codes "e")
unfolding is_token_byte
e_is_rejected = rejected-from_walk (codes "e") (in_type (codes "e")) refl refl

-- `e` may still become a media type.
pub e_is_viable : IsViable (codes "e")
unfolding is_token_byte
e_is_viable = viable-from_walk (codes "e") (in_type (codes "e")) refl

-- A good piece is read as its value, and a bad one is viable, rejected and not empty.
items_of_cuts : IsItem (good (codes "A/B") plain_value) × IsItem (bad (codes "e")) × ¬ (IsItem (bad (codes "A/B")))
    × ¬ (IsItem (bad []))
items_of_cuts = (
  reads_capitals,
  (e_is_viable, e_is_rejected, differ (codes "e") [] refl),
  (λ is. is.1 (plain_value, reads_capitals)),
  λ is. is.2 refl,
)

-- A value that keeps capitals isn't read.
not_read_so : ¬ (IsItem (good (codes "A/B") (record plain_value { kept = codes "A/B" })))
not_read_so is = keeps_no_capitals is

-- A bad piece is its own item, and not an empty one.
pub item_of_e : ItemsOf (codes "e") (bad (codes "e") ∷ [])
item_of_e = is_rejected e_is_rejected (differ (codes "e") [] refl)

-- An empty piece has none.
no_item_of_empty : (piece : List ℕ) (items : List CutItem) → ItemsOf piece items → piece ≡ [] → items ≡ []
no_item_of_empty piece items (is_read value reads) none = absurd (empty-rejected (subst IsAccepted none (value, reads)))
no_item_of_empty piece items (is_rejected is some) none = absurd (some none)
no_item_of_empty piece items (is_empty is) none = refl

-- A piece that isn't empty has an item.
not_without_item : ¬ (ItemsOf (codes "e") [])
not_without_item items = absurd (cc (items_of_unique _ _ _ items item_of_e))

-- The cut of `e,A/B` has a bad piece, a value, and no rest.
abbrev pub list_items : List CutItem
list_items = bad (codes "e") ∷ good (codes "A/B") plain_value ∷ []

-- The cut of `e,A/B` has a bad piece and a value, and no rest.
pub cut_of_list : Cut (codes "e,A/B") list_items []
cut_of_list = goes_on _ _ _ _ (bad (codes "e") ∷ []) _ _ split_at_comma item_of_e (whole (codes "A/B") plain_value reads_capitals)

-- The cut of `e,A/B` has no other items.
pub no_item_left_out : ¬ (Cut (codes "e,A/B") (good (codes "A/B") plain_value ∷ []) [])
no_item_left_out cut = absurd (cc (cut_unique _ _ _ cut_of_list _ _ cut).0)

-- The value isn't left out of the cut.
nothing_left : ¬ (Cut (codes "e,A/B") (bad (codes "e") ∷ []) (codes "A/B"))
nothing_left cut = absurd (omega (arith, ap length (cut_unique _ _ _ cut_of_list _ _ cut).1))

-- A text that may still become a media type is a rest.
pub rest_of_text : Cut (codes "e") [] (codes "e")
rest_of_text = unfinished (codes "e") e_is_viable e_is_rejected

-- A text that may still become a media type has no item.
no_item_yet : ¬ (Cut (codes "e") (bad (codes "e") ∷ []) [])
no_item_yet cut = absurd (omega (arith, ap length (cut_unique _ _ _ rest_of_text _ _ cut).0))

-- An accepted text is no rest.
no_accepted_rest : (text : List ℕ) (items : List CutItem) (rest : List ℕ) → Cut text items rest → IsAccepted text
    → items ≡ [] → ⊥
no_accepted_rest text items rest (whole t value reads) accepted none = absurd cc
no_accepted_rest text items rest (unfinished t viable is) accepted none = is accepted
no_accepted_rest text items rest (goes_on t p c l first others r split of_piece cut) accepted none =
    split-not_viable t p c l split (accepted_is_viable t accepted)

-- ---- pieces and steps

-- The pieces of `e,A/B` are `e`, with the comma after it, and `A/B`, written as the text.
pub pieces_of_list : Pieces (codes "e,A/B") ((codes "e", codes ",") ∷ []) (codes "A/B")
pieces_of_list = next _ _ _ _ [] (codes "A/B") split_at_comma (last (codes "A/B") (accepted_is_viable _ (plain_value, reads_capitals)))

-- The pieces of `e,A/B` write the text, in five steps.
written_pieces : (text_of_pieces ((codes "e", codes ",") ∷ []) (codes "A/B") ≡ codes "e,A/B")
    × (steps_of ((codes "e", codes ",") ∷ []) (codes "A/B") ≡ 5)
written_pieces = (refl, refl)

-- `e,A/B` is cut in five steps, and in no other number of them.
pub steps_of_list : TakesSteps (codes "e,A/B") 5
steps_of_list = record { pieces = (codes "e", codes ",") ∷ []; end = codes "A/B"; cut = pieces_of_list; counted = refl }

-- `e,A/B` is cut in no other number of steps.
pub no_other_steps : (n : ℕ) → TakesSteps (codes "e,A/B") n → n ≡ 5
no_other_steps n takes = takes_unique _ n 5 takes steps_of_list

-- A character of two bytes is passed in one step.
passed_in_one_step : steps_of (([], 195 ∷ 169 ∷ []) ∷ []) [] ≡ 1
passed_in_one_step = refl

-- ---- joined lists

-- A rest that a comma follows is a bad piece, or none if it is empty.
rests : (items_of_rest [] ≡ []) × (items_of_rest (codes "e") ≡ bad (codes "e") ∷ [])
rests = (refl, refl)

-- Kept texts are joined by a comma and a space.
joined_values : (joined [] ≡ []) × (joined (plain_value ∷ plain_value ∷ []) ≡ codes "a/b, a/b")
    × (kept_item plain_value ≡ good (codes "a/b") plain_value)
joined_values = (refl, refl, refl)

-- A value was read, or its kept text has capitals.
pub read_value : IsRead plain_value
read_value = (codes "A/B", reads_capitals)

-- A value whose kept text has capitals wasn't read.
unread_value : ¬ (IsRead (record plain_value { kept = codes "A/B" }))
unread_value (text, reads) = keeps_no_capitals (kept_is_read text _ reads)
