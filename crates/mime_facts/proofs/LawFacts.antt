-- What each law says of a text, proved from only the law, so that a law that says less doesn't check.
use Rattle.std.proofs.Common.{◌≡◌, ◌≢◌, ℕ, zero, suc, ◌<◌, ◌≤◌, Bool, true, false, ◌⊎◌, inl, inr, IsTrue, List, [], ◌∷◌, ◌++◌, length}
use Rattle.std.proofs.Common.{Option, Some, None, Result, refl, sym, ap, ◌∙◌, subst, arith, codes}
use Rattle.std.proofs.{lemmas.Bool.false≢true, lemmas.Option.none-some, lemmas.Option.same_Some}
use Rattle.std.specs.Prelude.{slice_get}
use Rattle.std.specs.declared.cmp.Ordering.TheVariants.{Less, Equal, Greater}
use Rattle.std.specs.{Char.IsScalar, Char.encode_utf8, Iterator.Drains, Str.IsUtf8, Str.IsCharBoundary}
use Rattle.mime.specs.{Bytes.is_token_byte, Bytes.plus_byte, Grammar.no_list, Grammar.SyntaxTree, Grammar.text_of, Grammar.IsWellFormed}
use Rattle.mime.specs.{Values.MediaType, Values.OwnedMedia, Values.Reads, Values.IsAccepted, Values.IsRejected, Comparison.Same}
use Rattle.mime.specs.{Comparison.Before, Comparison.TextIs, Faults.IsViable, Faults.IsLongest, Faults.IsLongestPrefix, Faults.Lacks}
use Rattle.mime.specs.{Faults.IsFault, Items.IsFirstAccepted, Laws.ExactlyOne, Laws.OneTree, Laws.OneReading, Laws.EmptyIsViable}
use Rattle.mime.specs.{Laws.PrefixOfViableIsViable, Laws.AcceptedIsViable, Laws.OneCompletion, Laws.CompletedIsRejected, Laws.NoCompletion}
use Rattle.mime.specs.{Laws.OneFault, Laws.OneLongestPrefix, Laws.PrefixEndsBetweenCharacters, Laws.IsViableInUtf8, Laws.PrefixIsInUtf8}
use Rattle.mime.specs.{Laws.HasNoPlusFrom, Laws.PlusIsLast, Laws.KeptIsRead, Laws.EssenceIsRead, Laws.OneOrder, Laws.BeforeIsTransitive}
use Rattle.mime.specs.{Laws.BareTextIs, Laws.KeptTextIs, Laws.IsDecided, Laws.OneAnswer, Laws.FirstDifferenceDecides, Cut.CutItem, Cut.good}
use Rattle.mime.specs.{Cut.bad, Cut.Cut, Cut.Pieces, Cut.TakesSteps, CutLaws.OneCut, CutLaws.CutHasItems, CutLaws.text_of_pieces}
use Rattle.mime.specs.{CutLaws.CutWritesText, CutLaws.OneCount, CutLaws.CommaContains, CutLaws.JoinedComesBack, CutLaws.PassesOneCharacter}
use Rattle.mime.specs.{CutLaws.AreGiven, CutLaws.RunGivesCut, CutLaws.CommaContainsOnRuns, CutLaws.PrintedListComesBack, Runs.Iteration}
use Rattle.mime.specs.{Runs.IsNext, declared.iter.Bad.Bad, declared.scan.fault.ParseError.ParseError}
use Rattle.mime.specs.{declared.scan.fault.ParseError.TheVariants.MissingSlash, declared.scan.fault.ParseError.TheVariants.MissingSubtype}
use Rattle.mime.specs.{declared.scan.fault.ParseError.TheVariants.InvalidToken}
use Rattle.mime.proofs.{ValueLemmas.Hash.utf8_bytes, ValueLemmas.KeptText.kept_is_read}
use Rattle.mime_facts.proofs.{ComparisonFacts.quoted_x, ComparisonFacts.plain_x, ComparisonFacts.plain_y, ComparisonFacts.other_value}
use Rattle.mime_facts.proofs.{ComparisonFacts.reads_quoted, ComparisonFacts.letters_reach_the_value, CutFacts.e_is_rejected}
use Rattle.mime_facts.proofs.{CutFacts.e_is_viable, CutFacts.list_items, CutFacts.cut_of_list, CutFacts.rest_of_text}
use Rattle.mime_facts.proofs.{CutFacts.split_at_comma, CutFacts.read_value, FaultFacts.e_lacks_slash, FaultFacts.e_is_closed}
use Rattle.mime_facts.proofs.{StandardFacts.media, StandardFacts.tree_from_parts, StandardFacts.plus_twice, StandardFacts.lowered_parts}
use Rattle.mime_facts.proofs.{StandardFacts.no_subtype, StandardFacts.space_in_type, ValueFacts.plain_value, ValueFacts.reads_capitals}
use Rattle.mime_facts.proofs.{ValueFacts.exact_item, ValueFacts.charset_item}

-- ---- trees and readings

-- The tree of `a/b` is the only one.
tree_of_text : OneTree → (tree : SyntaxTree) → IsWellFormed tree → text_of tree ≡ codes "a/b"
    → tree ≡ tree_from_parts (codes "a") (codes "b") no_list
unfolding is_token_byte
tree_of_text law tree fine is = law tree (tree_from_parts (codes "a") (codes "b") no_list) fine (refl, refl, tt) is

-- The value of `A/B` is the only one.
value_of_text : OneReading → (value : MediaType) → Reads (codes "A/B") value → value ≡ plain_value
value_of_text law value reads = law (codes "A/B") value plain_value reads reads_capitals

-- The plus is there, after the subtype's first byte, and is the last.
second_plus : PlusIsLast → (3 ≤ 5) × (slice_get (codes "a/b+c+d") 5 ≡ Some plus_byte) × HasNoPlusFrom (codes "a/b+c+d") 6
second_plus law = law (codes "a/b+c+d") _ plus_twice

-- If a value has no plus, there is none after the subtype's first byte.
none_without_plus : PlusIsLast → HasNoPlusFrom (codes "a/b") 3
none_without_plus law = law (codes "A/B") plain_value reads_capitals

-- A plus before the position doesn't count, and one at it does.
no_plus_after : HasNoPlusFrom (codes "+b") 1
no_plus_after zero from is = absurd (omega (arith, from))
no_plus_after (suc zero) from is = absurd (omega (arith, same_Some _ _ is))
no_plus_after (suc (suc position)) from is = none-some _ is

-- A plus at the position counts.
plus_at : ¬ (HasNoPlusFrom (codes "b+") 1)
plus_at none = none 1 (omega arith) refl

-- The kept text of `A/B` is read as its value.
reads_kept_text : KeptIsRead → Reads (codes "a/b") plain_value
reads_kept_text law = law (codes "A/B") plain_value reads_capitals

-- The essence `text/plain` is read as a media type.
reads_essence : EssenceIsRead → Reads (codes "text/plain") (media (codes "text/plain") 4 None [] (codes "text/plain"))
reads_essence law = law _ _ lowered_parts

-- ---- viable and rejected texts

-- The empty text is viable.
empty : EmptyIsViable → IsViable []
empty law = law

-- A prefix of a viable text is viable.
prefix_of_viable : PrefixOfViableIsViable → IsViable (codes "a/b;p") → IsViable (codes "a/")
prefix_of_viable law viable = law (codes "a/") (codes "b;p") viable

-- An accepted text is viable.
accepted : AcceptedIsViable → IsViable (codes "A/B")
accepted law = law (codes "A/B") (plain_value, reads_capitals)

-- The completion of `e` is the only one.
completion : OneCompletion → (fault : ParseError) → Lacks (codes "e") fault → fault ≡ MissingSlash
completion law fault lacks =
    let one = law (codes "e") e_is_viable e_is_rejected in one.2 fault lacks ∙ sym (one.2 MissingSlash e_lacks_slash)

-- The text `e` has a completion.
some_completion : OneCompletion → (fault : ParseError) × Lacks (codes "e") fault
some_completion law = let one = law (codes "e") e_is_viable e_is_rejected in (one.0, one.1)

-- A text with a completion is rejected.
completed : CompletedIsRejected → IsRejected (codes "text/")
completed law = law (codes "text/") MissingSubtype no_subtype

-- A text that isn't viable has no completion.
not_completed : NoCompletion → ¬ (IsViable (codes "a b")) → IsRejected (codes "a b/c")
not_completed law not_viable = law (codes "a b") (codes "/c") not_viable

-- The fault of `a b` is the only one.
fault_of_text : OneFault → IsRejected (codes "a b") → (fault : ParseError) → IsFault (codes "a b") fault
    → fault ≡ InvalidToken 1 32
fault_of_text law rejected fault is =
    let one = law (codes "a b") rejected in one.2 fault is ∙ sym (one.2 (InvalidToken 1 32) space_in_type)

-- The rejected text `a b` has a fault.
some_fault : OneFault → IsRejected (codes "a b") → (fault : ParseError) × IsFault (codes "a b") fault
some_fault law rejected = let one = law (codes "a b") rejected in (one.0, one.1)

-- `a b` has a longest viable prefix.
some_prefix : OneLongestPrefix → (count : ℕ) × IsLongestPrefix (codes "a b") count
some_prefix law = let one = law (codes "a b") in (one.0, one.1)

-- The longest viable prefix of `a b` has one byte.
prefix_of_text : OneLongestPrefix → (count : ℕ) → IsLongestPrefix (codes "a b") count → count ≡ 1
prefix_of_text law count is = let one = law (codes "a b") in one.2 count is ∙ sym (one.2 1 space_in_type.prefix)

-- `a b` may be cut after its longest viable prefix.
border_of_text : PrefixEndsBetweenCharacters → IsUtf8 (codes "a b") → IsCharBoundary (codes "a b") 1
border_of_text law utf8 = law (codes "a b") 1 utf8 space_in_type.prefix

-- The longest viable prefix of `a b` is viable in UTF-8, and the whole text isn't.
prefix_in_utf8 : PrefixIsInUtf8 → IsUtf8 (codes "a b") → IsViableInUtf8 (codes "a") × ¬ (IsViableInUtf8 (codes "a b"))
prefix_in_utf8 law utf8 = let is =
    (law (codes "a b") 1 utf8).0 space_in_type.prefix in (is.viable, is.longest 3 (omega arith) (omega arith))

-- What some accepted text of valid UTF-8 begins with, what no accepted text does, and what only accepted texts do that aren't valid UTF-8.
viable_in_utf8 : IsViableInUtf8 (codes "a") × ¬ (IsViableInUtf8 (codes "a b")) × ¬ (IsViableInUtf8 (codes "a/b;p=\"" ++ (255 ∷ [])))
unfolding encode_utf8
viable_in_utf8 = (
  (codes "/b", (codes "a/b", (refl, refl)), (plain_value, kept_is_read _ plain_value reads_capitals)),
  (λ is. space_in_type.prefix.longest 2 (omega arith) (omega arith) (codes "b" ++ is.0, is.2)),
  λ is. false≢true (utf8_bytes _ is.1),
)

-- The longest of them has one byte of `a b`, no fewer, and no more; and no more than the text has.
prefixes_in_utf8 :
    IsLongest IsViableInUtf8 (codes "a b") 1 × ¬ (IsLongest IsViableInUtf8 (codes "a b") 0)
    × ¬ (IsLongest IsViableInUtf8 (codes "a b") 3) × ¬ (IsLongest IsViableInUtf8 (codes "a") 2)
prefixes_in_utf8 = (
  record {
    within = omega arith;
    viable = viable_in_utf8.0;
    longest = λ n above within is. space_in_type.prefix.longest n above within (is.0, is.2);
  },
  (λ is. is.longest 1 (omega arith) (omega arith) viable_in_utf8.0),
  (λ is. viable_in_utf8.1 is.viable),
  λ is. absurd (omega (arith, is.within)),
)

-- The prefix that is viable in UTF-8 is the longest viable prefix.
prefix_from_utf8 : PrefixIsInUtf8 → IsUtf8 (codes "a b") → IsLongestPrefix (codes "a b") 1
prefix_from_utf8 law utf8 = (law (codes "a b") 1 utf8).1 prefixes_in_utf8.0

-- ---- comparison

-- What is before a second value isn't equal to it, nor after it.
one_of_three : OneOrder → (first second : MediaType) → Before first second → ¬ (Same first second) × ¬ (Before second first)
one_of_three law first second before =
    let one = law first second in (
      (λ same. absurd (cc (one.2 Less before, one.2 Equal same))),
      λ back. absurd (cc (one.2 Less before, one.2 Greater back)),
    )

-- What is before a second value, which is before a third, is before the third.
transitive : BeforeIsTransitive → Before plain_x plain_y → Before plain_y other_value → Before plain_x other_value
transitive law first second = law plain_x plain_y other_value first second

-- A text without parameters is compared by its essence, and has no semicolon.
bare_text : BareTextIs → TextIs plain_value (codes "A/b") × ¬ (TextIs plain_value (codes "a/b;"))
bare_text law =
    let is = law (codes "A/B") plain_value reads_capitals refl in
    ((is (codes "A/b")).1 refl, λ other. absurd (omega (arith, ap length ((is (codes "a/b;")).0 other))))

-- A kept text is a value exactly if its own value is the same.
text_of_other : KeptTextIs → TextIs plain_x (codes "a/b;p=\"x\"") × (TextIs plain_y (codes "a/b;p=\"x\"") → Same plain_y quoted_x)
text_of_other law = ((law _ quoted_x reads_quoted plain_x).1 (refl, refl), λ is. (law _ quoted_x reads_quoted plain_y).0 is)

-- Texts that differ first in the value are read as different values.
different_texts : FirstDifferenceDecides → (first second : MediaType) → Reads (codes "a/b") first → Reads (codes "A/c") second
    → ¬ (Same first second)
different_texts law first second reads also = law (codes "a/b") (codes "A/c") first second reads also letters_reach_the_value

-- A key has one answer.
answer_of_key : (Accepts : List ℕ → Bool → Type 0) → OneAnswer Accepts → (first second : Option (List ℕ × Bool))
    → IsFirstAccepted Accepts (exact_item ∷ charset_item ∷ []) first
    → IsFirstAccepted Accepts (exact_item ∷ charset_item ∷ []) second → first ≡ second
answer_of_key Accepts law first second is also = law (exact_item ∷ charset_item ∷ []) second first also is

-- Exactly one number is 3, but more than one is below 3, and none is below 0.
exactly_one : ExactlyOne (λ (n : ℕ). n ≡ 3) × ¬ (ExactlyOne (λ (n : ℕ). n < 3)) × ¬ (ExactlyOne (λ (n : ℕ). n < 0))
exactly_one = (
  (3, refl, λ other is. is),
  (λ one. absurd (omega (arith, one.2 0 (omega arith), one.2 1 (omega arith)))),
  λ one. absurd (omega (arith, one.1)),
)

-- Each name is accepted, or isn't.
decided : IsDecided (λ name ignores_case. IsTrue ignores_case)
decided name true = inl refl
decided name false = inr false≢true

-- A key accepts the name, or doesn't.
name_is_decided : (Accepts : List ℕ → Bool → Type 0) → IsDecided Accepts
    → Accepts (codes "p") true ⊎ ¬ (Accepts (codes "p") true)
name_is_decided Accepts decides = decides (codes "p") true

-- ---- the cut

-- `e,A/B` has a cut.
some_cut : OneCut → (items : List CutItem) × (rest : List ℕ) × Cut (codes "e,A/B") items rest
some_cut law = let one = law (codes "e,A/B") in (one.0, one.1, one.2)

-- `e,A/B` is cut in a number of steps.
some_steps : OneCount → (steps : ℕ) × TakesSteps (codes "e,A/B") steps
some_steps law = let one = law (codes "e,A/B") in (one.0, one.1)

-- The cut of `e,A/B` is the only one.
cut_of_text : OneCut → (items : List CutItem) (rest : List ℕ) → Cut (codes "e,A/B") items rest
    → (items ≡ list_items) × (rest ≡ [])
cut_of_text law items rest cut =
    let one = law (codes "e,A/B") in
    let first = one.3 items rest cut in
    let second = one.3 _ _ cut_of_list in
    (first.0 ∙ sym second.0, first.1 ∙ sym second.1)

-- A bad piece is viable, rejected and not empty, and what is left is viable and rejected.
items_of_text : CutHasItems → (text piece rest : List ℕ) → Cut text (bad piece ∷ []) rest
    → IsViable piece × IsRejected piece × (piece ≢ []) × IsViable rest × IsRejected rest
items_of_text law text piece rest cut =
    let is = law text (bad piece ∷ []) rest cut in (is.0.0.0, is.0.0.1, is.0.0.2, is.1, is.2)

-- The pieces of `e` write it, and end in an accepted text or in all of it.
pieces_of_text : CutWritesText → (pieces : List (List ℕ × List ℕ)) × (end : List ℕ) × Pieces (codes "e") pieces end
    × (text_of_pieces pieces end ≡ codes "e") × (IsAccepted end ⊎ (end ≡ codes "e"))
pieces_of_text law = law (codes "e") [] (codes "e") rest_of_text

-- `e,A/B` is cut in one number of steps.
steps_of_text : OneCount → (first second : ℕ) → TakesSteps (codes "e,A/B") first → TakesSteps (codes "e,A/B") second
    → first ≡ second
steps_of_text law first second is also = let one = law (codes "e,A/B") in one.2 first is ∙ sym (one.2 second also)

-- The rest before a comma is a bad piece.
comma_after_rest : CommaContains → Cut (codes "e,e,A/B") (bad (codes "e") ∷ list_items) []
comma_after_rest law = law (codes "e") (codes "e,A/B") [] _ (codes "e") [] rest_of_text e_is_closed cut_of_list

-- Joined values come back.
list_of_values : JoinedComesBack → Cut (codes "a/b, a/b") (good (codes "a/b") plain_value ∷ good (codes "a/b") plain_value ∷ []) []
list_of_values law = law (plain_value ∷ plain_value ∷ []) (read_value, (read_value, tt))

-- The comma that is passed is one character.
passed_character : PassesOneCharacter → IsUtf8 (codes "e,A/B")
    → (char : ℕ) × IsScalar char × (codes "," ≡ encode_utf8 char) × IsUtf8 (codes "e") × IsUtf8 (codes "A/B")
passed_character law utf8 = law _ _ _ _ utf8 split_at_comma

-- ---- runs

-- A run over `e,A/B` yields its items.
run_of_list : RunGivesCut → (first : Iteration) (given : List (Result OwnedMedia Bad)) → first.left ≡ codes "e,A/B"
    → Drains IsNext first given → AreGiven given list_items
run_of_list law first given is drains = law first given drains list_items [] (subst (λ text. Cut text list_items []) (sym is) cut_of_list)

-- A run over `e,e,A/B` yields the first piece, and then the items after the comma.
run_after_comma : CommaContainsOnRuns → (first : Iteration) (given : List (Result OwnedMedia Bad))
    → first.left ≡ codes "e,e,A/B" → Drains IsNext first given → AreGiven given (bad (codes "e") ∷ list_items)
run_after_comma law first given is drains =
    law (codes "e") (codes "e,A/B") [] _ (codes "e") [] rest_of_text e_is_closed cut_of_list first given is drains

-- A run over a printed list yields its values.
run_of_printed : PrintedListComesBack → (first : Iteration) (given : List (Result OwnedMedia Bad)) → first.left ≡ codes "a/b, a/b"
    → Drains IsNext first given → AreGiven given (good (codes "a/b") plain_value ∷ good (codes "a/b") plain_value ∷ [])
run_of_printed law first given is drains = law (plain_value ∷ plain_value ∷ []) (read_value, (read_value, tt)) first given is drains
