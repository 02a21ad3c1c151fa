-- What is written into a header, and what is read there: values and lists for which each definition is true and others for which
-- it is false, and what each law says of a text.
use Rattle.std.proofs.Common.{◌≡◌, ℕ, Bool, true, false, ◌⊎◌, inl, inr, List, [], ◌∷◌, ◌++◌, map, Option, Some, None, refl, sym, codes}
use Rattle.std.proofs.lemmas.Bool.{false≢true}
use Rattle.mime.specs.{Bytes.is_token_byte, Bytes.is_quoted_byte, Grammar.IsContent, Values.MediaType, Values.Reads, Values.IsAccepted}
use Rattle.mime.specs.{Values.IsRejected, Values.type_of, Values.subtype_of, Items.IsFirstAccepted, Laws.AcceptedOrRejected}
use Rattle.mime.specs.{Laws.suffix_text, Laws.EssenceIsParts, Laws.HaveSameParts, Laws.SameEssence, Laws.IsDecided, Laws.HasAnswer}
use Rattle.mime.specs.{HeaderLaws.AreHeaderBytes, HeaderLaws.IsSafePair, HeaderLaws.IsSafe, HeaderLaws.KeptIsSafe}
use Rattle.mime.specs.{HeaderLaws.text_with_parameter, HeaderLaws.with_parameter, HeaderLaws.ParameterIsRead, Cut.good, Cut.Cut, Cut.whole}
use Rattle.mime.specs.{CutLaws.is_separator, CutLaws.IsHttpList, CutLaws.no_element, CutLaws.separated, CutLaws.one_element}
use Rattle.mime.specs.{CutLaws.more_elements, CutLaws.HttpListIsCut}
use Rattle.mime.proofs.{CutLemmas.Containment.http_list_is_cut, CutLemmas.Cuts.cut_unique, GrammarLemmas.Content.IsContent-taken}
use Rattle.mime.proofs.{GrammarLemmas.Content.content-taken}
use Rattle.mime_facts.proofs.{ComparisonFacts.quoted_x, ComparisonFacts.reads_quoted, CutFacts.no_item_left_out, StandardFacts.media}
use Rattle.mime_facts.proofs.{StandardFacts.plus_twice, ValueFacts.differ, ValueFacts.plain_value, ValueFacts.reads_capitals}
use Rattle.mime_facts.proofs.{ValueFacts.exact_item}

-- ---- accepted and rejected

-- A text that isn't accepted is rejected.
rejected_text : AcceptedOrRejected → ¬ (IsAccepted (codes "e")) → IsRejected (codes "e")
rejected_text law no_value = by (law (codes "e"))
  where
    by : IsAccepted (codes "e") ⊎ IsRejected (codes "e") → IsRejected (codes "e")
    by (inl accepted) = absurd (no_value accepted)
    by (inr is) = is

-- ---- an essence and its parts

-- A suffix is written with its plus.
suffix_texts : (suffix_text None ≡ []) × (suffix_text (Some (codes "xml")) ≡ codes "+xml")
suffix_texts = (refl, refl)

-- The value of `a/b+c+d`, and values of a part more or less.
abbrev two_pluses : MediaType
two_pluses = media (codes "a/b+c+d") 1 (Some 5) [] (codes "a/b+c+d")

-- The essence of `a/b+c+d` is its parts.
essence_of_parts : EssenceIsParts → codes "a/b+c+d" ≡ type_of two_pluses ++ (codes "/" ++ (subtype_of two_pluses ++ codes "+d"))
essence_of_parts law = law _ two_pluses plus_twice

-- Parts are the same whatever the parameters, and differ if one of them does.
same_parts :
    HaveSameParts plain_value (record plain_value { pairs = ([], []) ∷ [] })
    × ¬ (HaveSameParts plain_value (media (codes "c/b") 1 None [] []))
    × ¬ (HaveSameParts plain_value (media (codes "a/c") 1 None [] []))
    × ¬ (HaveSameParts (media (codes "a/b") 1 None [] []) (media (codes "a/b+") 1 (Some 3) [] []))
same_parts = (
  (refl, refl, refl),
  (λ is. differ (codes "a") (codes "c") refl is.0),
  (λ is. differ (codes "b") (codes "c") refl is.1),
  λ is. absurd (cc is.2),
)

-- Values have the same parts exactly if their essences are the same.
essence_of_both : SameEssence → (text : List ℕ) (value : MediaType) → Reads text value
    → (HaveSameParts plain_value value → value.essence ≡ codes "a/b") × (codes "a/b" ≡ value.essence
    → HaveSameParts plain_value value)
essence_of_both law text value reads =
    let is = law (codes "A/B") text plain_value value reads_capitals reads in (λ same. sym (is.1 same), is.0)

-- ---- a key

-- A key that decides finds an answer.
answer_found : (Accepts : List ℕ → Bool → Type 0) → HasAnswer Accepts → IsDecided Accepts
    → (found : Option (List ℕ × Bool)) × IsFirstAccepted Accepts (exact_item ∷ []) found
answer_found Accepts law decided = law decided (exact_item ∷ [])

-- ---- a safe value

-- A tab, a space, punctuation and bytes past ASCII may occur in a header; a line feed may not.
header_bytes : AreHeaderBytes (9 ∷ 32 ∷ 34 ∷ 44 ∷ 59 ∷ 92 ∷ 126 ∷ 128 ∷ 255 ∷ []) × ¬ (AreHeaderBytes (codes "x\n"))
unfolding is_quoted_byte
header_bytes = (refl, λ are. false≢true are)

-- A pair has a token and quoted content.
which_pairs_are_safe : IsSafePair (codes "p", []) × ¬ (IsSafePair ([], codes "x")) × ¬ (IsSafePair (codes "p", codes "\""))
unfolding is_token_byte is_quoted_byte
which_pairs_are_safe = ((refl, IsContent-taken [] refl refl), (λ is. false≢true is.0), λ is. false≢true (content-taken _ is.1))

-- A value with a line feed, without a type or a subtype, with a space in its suffix, or with a parameter without a name isn't safe.
unsafe_values :
    ¬ (IsSafe (record plain_value { kept = codes "a/b\n" })) × ¬ (IsSafe (record plain_value { slash = 0 }))
    × ¬ (IsSafe (record plain_value { essence = codes "a/" })) × ¬ (IsSafe (record two_pluses { essence = codes "a/b+c+ " }))
    × ¬ (IsSafe (record plain_value { pairs = ([], []) ∷ [] }))
unfolding is_token_byte is_quoted_byte
unsafe_values = (
  (λ is. false≢true is.kept),
  (λ is. false≢true is.top),
  (λ is. false≢true is.sub),
  (λ is. false≢true is.suffix),
  λ is. false≢true is.pairs.0.0,
)

-- What is read of `A/B;P="x"`, and of `a/b+c+d`, is safe.
safe_values : KeptIsSafe → IsSafe quoted_x × IsSafe two_pluses
safe_values law = (law _ quoted_x reads_quoted, law _ two_pluses plus_twice)

-- ---- a parameter

-- A parameter is written in quotes, and is the only one.
written_parameter : (text_with_parameter (codes "a/b") (codes "P") (codes "x y") ≡ codes "a/b; P=\"x y\"")
    × (with_parameter (media (codes "a/b") 1 None ((codes "q", []) ∷ []) []) (codes "p") (codes "x")
    ≡ media (codes "a/b") 1 None ((codes "p", codes "x") ∷ []) (codes "a/b; p=\"x\""))
written_parameter = (refl, refl)

-- `A/B` with a charset in quotes is read with the charset in lowercase.
parameter_of_text : ParameterIsRead → IsContent (codes "X")
    → Reads (codes "a/b; Charset=\"X\"") (media (codes "a/b") 1 None ((codes "charset", codes "x") ∷ []) (codes "a/b; charset=\"x\""))
unfolding is_token_byte
parameter_of_text law is = law (codes "A/B") plain_value (codes "Charset") (codes "X") reads_capitals refl is

-- ---- a list

-- Spaces, tabs and commas separate.
separators : map is_separator (codes " \t,;x") ≡ true ∷ true ∷ true ∷ false ∷ false ∷ []
separators = refl

-- A list may begin with separators, have some after a comma, and end with a comma.
two_elements : IsHttpList (codes " ,A/B,\t,A/B,") (good (codes "A/B") plain_value ∷ good (codes "A/B") plain_value ∷ [])
two_elements =
    separated 32 _ _ refl (separated 44 _ _ refl (more_elements (codes "A/B") plain_value _ _ reads_capitals
    (separated 9 _ _ refl (separated 44 _ _ refl (more_elements (codes "A/B") plain_value [] [] reads_capitals no_element)))))

-- A list may end with an element.
one_of_two : IsHttpList (codes ",A/B") (good (codes "A/B") plain_value ∷ [])
one_of_two = separated 44 _ _ refl (one_element (codes "A/B") plain_value reads_capitals)

-- It has no other elements, and no rejected ones.
no_such_list : ¬ (IsHttpList (codes "A/B") []) × ¬ (IsHttpList (codes "e,A/B") (good (codes "A/B") plain_value ∷ []))
no_such_list = (
  (λ list. absurd (cc (cut_unique _ _ _ (whole (codes "A/B") plain_value reads_capitals) _ _ (http_list_is_cut _ _ list)).0)),
  λ list. no_item_left_out (http_list_is_cut _ _ list),
)

-- The list's cut has its two elements.
cut_of_elements : HttpListIsCut
    → Cut (codes " ,A/B,\t,A/B,") (good (codes "A/B") plain_value ∷ good (codes "A/B") plain_value ∷ []) []
cut_of_elements law = law _ _ two_elements
