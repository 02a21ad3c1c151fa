-- A comma ends whatever precedes it, and leaves what follows it as it is.
use Rattle.std.proofs.Common.{◌≡◌, ℕ, suc, ◌≤◌, List, [], ◌∷◌, ◌++◌, length, take, drop, Some, None, refl, sym, ap, ◌∙◌, subst, arith, inl}
use Rattle.std.proofs.Common.{inr, append_assoc, length-append, rules}
use Rattle.std.proofs.Math.Seq.{take-append_seam}
use Rattle.std.proofs.lemmas.List.{take-append-le, take-append-drop, take-take}
use Rattle.std.proofs.lemmas.Bool.{and_parts, cond-false}
use Rattle.std.proofs.lemmas.Bool.Decides.{nat_tests}
use Rattle.std.proofs.lemmas.Grind.{common_steps}
use Rattle.mime.proofs.GrammarLemmas.Begun.{Begun, in_type, grow, walk}
use Rattle.mime.proofs.GrammarLemmas.Characters.{following-low, foreign-from_high, IsForeign, IsOpen, grow-foreign}
use Rattle.mime.proofs.CutLemmas.Cuts.{Following, following_of, split-size, split-from_dead, items-from_rejected, split_inv, empty-rejected}
use Rattle.mime.proofs.CutLemmas.Cuts.{empty-cut, has_cut, cut_unique, takes_unique}
use Rattle.mime.proofs.ValueLemmas.KeptText.{kept_is_read}
use Rattle.mime.proofs.GrammarLemmas.Viability.{empty_is_viable, walk-from_viable, lacks-from_walk, accepted_is_viable}
use Rattle.mime.proofs.GrammarLemmas.Viability.{prefix_of_viable_is_viable}
use Rattle.mime.proofs.GrammarLemmas.Faults.{completed_is_rejected}
use Rattle.std.specs.Prelude.{IsTrue, map, MatchOption}
use Rattle.std.specs.List.{list_all, AllByRecursion}
use Rattle.mime.specs.Bytes.{is_token_byte, comma_byte, space_byte}
use Rattle.mime.specs.Values.{MediaType, IsAccepted}
use Rattle.mime.specs.Faults.{IsViable, IsUnclosed}
use Rattle.mime.specs.declared.scan.fault.ParseError.TheVariants.{MissingQuote}
use Rattle.mime.specs.Cut.{is_following_byte, BeginsCharacter, IsCharacter, IsSplit, CutItem, good, ItemsOf, is_read, is_empty, Cut, whole}
use Rattle.mime.specs.Cut.{unfinished, goes_on, last, next, steps_of, TakesSteps}
use Rattle.mime.specs.CutLaws.{OneCut, CutWritesText, IsItem, CutHasItems, OneCount, items_of_rest, CommaContains, joined, IsRead}
use Rattle.mime.specs.CutLaws.{kept_item, JoinedComesBack, IsHttpList, no_element, separated, one_element, more_elements, HttpListIsCut}

-- A text has exactly one cut.
pub one_cut : OneCut
one_cut text = let found = has_cut text in (found.items, found.rest, found.cut, cut_unique text found.items found.rest found.cut)

-- ---- items

-- Items that are followed by others.
are_items-append : (items others : List CutItem) → AllByRecursion IsItem items → AllByRecursion IsItem others
    → AllByRecursion IsItem (items ++ others)
are_items-append items others are more = grind (arith, common_steps)

-- A viable piece has well-formed items.
are_items-of : (piece : List ℕ) (items : List CutItem) → IsViable piece → ItemsOf piece items → AllByRecursion IsItem items
are_items-of piece items viable is = search rules

-- Each item of a cut is one.
pub cut_has_items : CutHasItems
cut_has_items text items rest (whole t value reads) = ((reads, tt), empty_is_viable, empty-rejected)
cut_has_items text items rest (unfinished t viable is) = (tt, viable, is)
cut_has_items text items rest (goes_on t p c l first others r split of_piece cut) =
    let viable = subst IsViable (ap (take (length p)) split.spelled ∙ take-append_seam p (c ++ l)) split.prefix.viable in
    let more = cut_has_items l others r cut in
    (are_items-append first others (are_items-of p first viable of_piece) more.0, more.1, more.2)

-- ---- pieces

-- A cut writes its text as pieces.
pub cut_writes_text : CutWritesText
cut_writes_text text items rest (whole t v reads) = ([], t, last t (accepted_is_viable t (v, reads)), refl, inl (v, reads))
cut_writes_text text items rest (unfinished t viable is) = ([], t, last t viable, refl, inr refl)
cut_writes_text text items rest (goes_on t p c l first others r split of_piece cut) =
    let (pieces, end, found, spelled, last_is) = cut_writes_text l others r cut in
    ((p, c) ∷ pieces, end, next t p c l pieces end split found, ap (λ t. p ++ (c ++ t)) spelled ∙ sym split.spelled, last_is)

-- A text is cut in one number of steps.
pub one_count : OneCount
one_count text =
    let has = has_cut text in
    let (pieces, end, found, _, _) = cut_writes_text text has.items has.rest has.cut in
    let takes : TakesSteps text (steps_of pieces end) = record { pieces = pieces; end = end; cut = found; counted = refl } in
    (steps_of pieces end, takes, λ other again. takes_unique text other (steps_of pieces end) again takes)

-- ---- what may precede a piece

-- A byte that begins no type is passed.
dead-inv : (b : ℕ) (bytes : List ℕ) (rest : Following bytes) (items : List CutItem) (end : List ℕ)
    → grow (in_type []) b ≡ None → Cut (b ∷ bytes) items end → Cut rest.left items end
dead-inv b bytes rest items end dead cut =
    let split = split-from_dead [] bytes b (in_type []) rest refl dead in
    let leaves = split_inv (b ∷ bytes) [] (b ∷ rest.following) rest.left [] items end split (is_empty refl) cut in
    subst (λ i. Cut rest.left i end) (sym leaves.appended) leaves.cut

-- Bytes that only follow, passed with the character before them, leave a cut as it is.
cut-after_following : (bytes : List ℕ) (rest : Following bytes) (items : List CutItem) (end : List ℕ)
    → Cut bytes items end → Cut rest.left items end
cut-after_following bytes rest items end cut =
    by_class rest.following rest.left rest.of_class rest.begins (subst (λ t. Cut t items end) rest.spelled cut)
  where
    by_class : (following left : List ℕ) → IsTrue (list_all is_following_byte following) → BeginsCharacter left
        → Cut (following ++ left) items end → Cut left items end
    by_class [] left of_class begins cut = cut
    by_class (b ∷ following) left of_class begins cut =
        let parts = and_parts (is_following_byte b) (list_all is_following_byte following) of_class in
        dead-inv b (following ++ left)
        (record { following = following; left = left; spelled = refl; of_class = parts.1; begins = begins }) items end
        (cond-false (is_token_byte b) _ _ (foreign-from_high b (following-low b parts.0).0).token) cut

-- A byte that begins no type, passed with what follows it, leaves a cut as it is.
cut-after_dead : (b : ℕ) (bytes : List ℕ) (items : List CutItem) (end : List ℕ) → grow (in_type []) b ≡ None
    → Cut bytes items end → Cut (b ∷ bytes) items end
cut-after_dead b bytes items end dead cut =
    let rest = following_of bytes in
    goes_on (b ∷ bytes) [] (b ∷ rest.following) rest.left [] items end
    (split-from_dead [] bytes b (in_type []) rest refl dead) (is_empty refl) (cut-after_following bytes rest items end cut)

-- ---- the comma

-- A comma is foreign to the grammar.
comma-foreign : IsForeign comma_byte
unfolding is_token_byte
comma-foreign = record { token = refl; space = refl; slash = refl; semicolon = refl; equals = refl; quote = refl }

-- A comma leads nowhere but in an open quoted value.
comma-dead : (text : List ℕ) (begun : Begun) → walk text ≡ Some begun → ¬ (IsUnclosed text) → grow begun comma_byte ≡ None
comma-dead text begun walked closed =
    elim (grow begun comma_byte) as (λ o. MatchOption o (Unit {0}) (λ after. IsOpen begun × IsOpen after) → o ≡ None) [
      | None ↦ λ leads. refl
      | Some after ↦ λ leads. absurd (closed (lacks-from_walk text _ (walked ∙ ap (λ s. Some s) leads.0.is) refl))
    ] (grow-foreign begun comma_byte comma-foreign)

-- A viable text that a comma follows is split at the comma.
comma-split : (text bytes : List ℕ) (rest : Following bytes) → IsViable text → ¬ (IsUnclosed text)
    → IsSplit (text ++ (comma_byte ∷ bytes)) text (comma_byte ∷ rest.following) rest.left
comma-split text bytes rest viable closed =
    let reached = walk-from_viable text viable in
    split-from_dead text bytes comma_byte reached.0 rest reached.1 (comma-dead text reached.0 reached.1 closed)

-- An accepted text isn't open.
accepted-closed : (text : List ℕ) → IsAccepted text → ¬ (IsUnclosed text)
accepted-closed text accepted unclosed = completed_is_rejected text MissingQuote unclosed accepted

-- A prefix of a viable text is viable.
take-viable : (text : List ℕ) (k n : ℕ) → k ≤ n → IsViable (take n text) → IsViable (take k text)
take-viable text k n le viable =
    subst IsViable (take-take k n text le) (prefix_of_viable_is_viable (take k (take n text)) (drop k (take n text))
    (subst IsViable (sym (take-append-drop k (take n text))) viable))

-- More bytes after a split text leave its split as it is.
split-append : (text p c l more : List ℕ) → BeginsCharacter more → IsSplit text p c l → IsSplit (text ++ more) p c (l ++ more)
split-append text p c l more begins split =
    let size = split-size text p c l split in
    let k = suc (length p) in
    record {
      spelled = ap (λ t. t ++ more) split.spelled ∙ append_assoc p (c ++ l) more ∙ ap (λ t. p ++ t) (append_assoc c l more);
      prefix = record {
        within = omega (arith, split.prefix.within, length-append text more);
        viable = subst IsViable (sym (take-append-le (length p) text more split.prefix.within)) split.prefix.viable;
        longest = λ n above within viable.
            split.prefix.longest k (omega arith) (omega (arith, size.0, size.1))
            (subst IsViable (take-append-le k text more (omega (arith, size.0, size.1)))
            (take-viable (text ++ more) k n (omega (arith, above)) viable));
      };
      is_character = still c l split.is_character;
    }
  where
    begins_still : (l : List ℕ) → BeginsCharacter l → BeginsCharacter (l ++ more)
    begins_still [] is = begins
    begins_still (b ∷ l) is = is

    still : (c l : List ℕ) → IsCharacter c l → IsCharacter c (l ++ more)
    still [] l one = absurd one
    still (b ∷ f) l one = (one.0, begins_still l one.1)

-- A viable text is cut off by a comma, unless it is open.
comma-cut : (text after : List ℕ) (first others : List CutItem) (end : List ℕ) → IsViable text → ¬ (IsUnclosed text)
    → ItemsOf text first → Cut after others end → Cut (text ++ (comma_byte ∷ after)) (first ++ others) end
comma-cut text after first others end viable closed of_text cut =
    let spared = following_of after in
    goes_on (text ++ (comma_byte ∷ after)) text (comma_byte ∷ spared.following) spared.left first others end
    (comma-split text after spared viable closed) of_text (cut-after_following after spared others end cut)

-- A comma ends whatever precedes it.
pub comma_contains : CommaContains
comma_contains before after items others rest end (whole t v reads) closed cut =
    comma-cut t after (good t v ∷ []) others end (accepted_is_viable t (v, reads)) (accepted-closed t (v, reads)) (is_read v reads) cut
comma_contains before after items others rest end (unfinished t viable is) closed cut =
    comma-cut t after (items_of_rest t) others end viable closed (items-from_rejected t is) cut
comma_contains before after items others rest end (goes_on t p c l first own r split of_piece inner) closed cut =
    subst (λ i. Cut (t ++ (comma_byte ∷ after)) i end) (sym (append_assoc first own (items_of_rest r ++ others)))
    (goes_on (t ++ (comma_byte ∷ after)) p c (l ++ (comma_byte ∷ after)) first (own ++ (items_of_rest r ++ others)) end
    (split-append t p c l (comma_byte ∷ after) refl split) of_piece (comma_contains l after own others r end inner closed cut))

-- ---- a printed list

-- A list as HTTP writes it is cut into its elements.
pub http_list_is_cut : HttpListIsCut
unfolding is_token_byte
http_list_is_cut text elements no_element = empty-cut
http_list_is_cut text elements (separated b list _ is others) =
    cut-after_dead b list elements [] (cond-false (is_token_byte b) _ _ (grind (arith, nat_tests, is)))
    (http_list_is_cut list elements others)
http_list_is_cut text elements (one_element _ value reads) = whole text value reads
http_list_is_cut text elements (more_elements first value list others reads more) =
    comma-cut first list (good first value ∷ []) others [] (accepted_is_viable first (value, reads))
    (accepted-closed first (value, reads)) (is_read value reads) (http_list_is_cut list others more)

-- Joined kept texts are such a list.
joined_is_list : (values : List MediaType) → AllByRecursion IsRead values → IsHttpList (joined values) (map kept_item values)
joined_is_list [] are = no_element
joined_is_list (value ∷ []) are = one_element value.kept value (kept_is_read are.0.0 value are.0.1)
joined_is_list (value ∷ (second ∷ values)) are =
    more_elements value.kept value _ _ (kept_is_read are.0.0 value are.0.1)
    (separated space_byte _ _ refl (joined_is_list (second ∷ values) are.1))

-- Values come back from their joined kept texts.
pub joined_comes_back : JoinedComesBack
joined_comes_back values are = http_list_is_cut (joined values) (map kept_item values) (joined_is_list values are)
