-- What a range demands of an offer, and its weight: item by item, and by a kept text that ends in a weight alone. What covers an
-- offer is told by what both mean.
use Rattle.std.proofs.Common.{rules}
use Rattle.mime_http.proofs.Common.{IsFirstAccepted, Item, List, MediaType, None, Option, Some, [], arith, bytes_eq, bytes_eq-Decides}
use Rattle.mime_http.proofs.Common.{list_any, name_seen, name_text, refl, sym, true, unescaped, ◌&&◌, ◌++◌, ◌∙◌, codes, demanded}
use Rattle.mime_http.proofs.Common.{first_value, has, if◌then◌else◌, items_of, length, list_all, option_map, option_or, thousandths_of}
use Rattle.mime_http.proofs.Common.{unwrap_or, ℕ, ◌+◌, ◌∷◌, ◌≡◌, AreSpaces, Reads, SyntaxTree, ap, ap₂, drop, drop-append_seam, essence_of}
use Rattle.mime_http.proofs.Common.{final, is_token_byte, listed, list_all-wider, nat_tests, one_reading, plain, is_ascii_digit, subst}
use Rattle.mime_http.proofs.Common.{worth, text_of_tail, value_of, Bool, IsToken, ◌≢◌, CoversItself, MeaningCounts, and_from, map}
use Rattle.mime_http.proofs.Common.{meaning_of, is_demanded, list_all-from_AllPass, get_or, All-filter, list_any_at, list_all-map}
use Rattle.mime_http.proofs.Common.{length-map}
use Rattle.mime.{specs.declared.name.Name.Name, proofs.HandedOut.text_of-essence}
use Rattle.mime_http.{specs.Digits.IsLoneWeight, specs.Digits.is_digit_or_dot, proofs.Written.lengths}
use Rattle.mime_http.proofs.Numbers.{read_is}

-- This is the count of parameters and the weight that were found.
abbrev pub found_of : ℕ → Option (List ℕ) → Option (ℕ × ℕ)
found_of count weight = Some (count, unwrap_or (option_map thousandths_of weight) 1000)

-- This is what a range demands of an offer, if that has it, and the range's weight.
abbrev pub found_in : MediaType → List (List ℕ × List ℕ) → Option (ℕ × ℕ)
found_in offer pairs =
    if list_all (has offer) (demanded pairs) then found_of (length (demanded pairs)) (first_value (codes "q") pairs) else None

-- This is the same, of which some was counted and a weight may be known, and these items are left.
abbrev pub found_from : MediaType → ℕ → Option (List ℕ) → List Item → Option (ℕ × ℕ)
found_from offer count weight [] = found_of count weight
found_from offer count weight (item ∷ items) =
    if is_demanded item.name then (if has offer (item.name, item.value) then found_from offer (count + 1) weight items else None)
    else found_from offer count (option_or weight (Some item.value)) items

-- The items of a range's pairs decide what is found.
pub found_after : (offer : MediaType) (count : ℕ) (weight : Option (List ℕ)) (pairs : List (List ℕ × List ℕ))
    → found_from offer count weight (items_of pairs) ≡ (if list_all (has offer) (demanded pairs)
    then found_of (count + length (demanded pairs)) (option_or weight (first_value (codes "q") pairs)) else None)
found_after offer count weight [] = grind (arith)
found_after offer count weight (pair ∷ pairs) =
    search (found_after offer count (option_or weight (Some pair.1)) pairs, found_after offer (count + 1) weight pairs, rules)

-- ---- what a look-up finds

-- A test of what is mapped is one of the list.
list_any-map : {X Y : Type 0} (p : Y → Bool) (f : X → Y) (xs : List X) → list_any p (map f xs) ≡ list_any (λ x. p (f x)) xs
list_any-map p f [] = refl
list_any-map p f (x ∷ xs) = grind (arith, list_any-map p f xs)

-- A test of an offer's items is a test of its pairs.
pub has_item : (offer : MediaType) (name value : List ℕ)
    → list_any (λ item. bytes_eq item.name name && bytes_eq (unescaped item.value) (unescaped value)) (items_of offer.pairs)
    ≡ has offer (name, value)
has_item offer name value = search (list_any-map, bytes_eq, rules)

-- The value of the first parameter that is accepted is the first of that name.
pub first_is : (name : List ℕ) (found : Option Name) (pairs : List (List ℕ × List ℕ))
    → IsFirstAccepted (λ text flag. (text ≡ name) × (flag ≡ true)) (items_of pairs) (option_map name_seen found)
    → option_map name_text found ≡ first_value name pairs
first_is name found [] is = grind (arith, is)
first_is name found (pair ∷ pairs) is = grind (arith, bytes_eq-Decides pair.0 name, is.0, is.1, first_is name found pairs)

-- ---- a weight alone, right after the essence

-- A number is a token.
pub number_is_token : (text : List ℕ) → text ≢ [] → list_all is_digit_or_dot text ≡ true → IsToken text
unfolding is_token_byte
number_is_token [] some all = absurd (some refl)
number_is_token (b ∷ bytes) some all =
    list_all-wider is_digit_or_dot is_token_byte (λ b is. grind (arith, nat_tests, is)) (b ∷ bytes) all

-- A weight of decimals after `0.` is a token, and means what they are worth.
pub decimals_are : (text decimals : List ℕ) (weight : ℕ) → text ≡ 48 ∷ 46 ∷ decimals → list_all is_ascii_digit decimals ≡ true
    → weight ≡ worth 100 decimals → IsToken text × (weight ≡ thousandths_of text)
decimals_are text decimals weight is digits worth_is =
    let all = list_all-wider is_ascii_digit is_digit_or_dot (λ b digit. rw digit refl) decimals digits in
    subst (λ text. IsToken text × (weight ≡ thousandths_of text)) (sym is)
    (number_is_token (48 ∷ 46 ∷ decimals) (λ none. absurd cc) all, worth_is ∙ read_is (48 ∷ 46 ∷ decimals))

-- The tree with the weight in place of the parameters is well formed, too. So the weight is the only parameter, since a text is read in
-- one way.
weight_alone : (media : MediaType) (n weight : List ℕ) → Reads media.kept media → AreSpaces n → IsToken weight
    → drop (length media.essence) media.kept ≡ codes ";" ++ (n ++ (codes "q=" ++ weight))
    → media.pairs ≡ (codes "q", weight) ∷ []
unfolding is_token_byte
weight_alone media n weight reads spaces token is =
    let tree = reads.tree in
    let other : SyntaxTree = record tree { tail = listed (final n (plain (codes "q") weight)) } in
    let kept : media.kept ≡ essence_of tree ++ text_of_tail tree.tail = sym reads.spelled ∙ text_of-essence tree in
    let long : length media.essence ≡ length (essence_of tree) =
    ap (λ value. length value.essence) (sym reads.valued) ∙ simp lengths in
    let tail = sym (ap₂ drop long kept ∙ drop-append_seam (essence_of tree) (text_of_tail tree.tail)) ∙ is in
    let again : Reads media.kept (value_of other) = record {
      tree = other;
      well_formed = (reads.well_formed.0, reads.well_formed.1, (spaces, (refl, token)));
      spelled = text_of-essence other ∙ (ap (λ t. essence_of tree ++ t) (sym tail) ∙ sym kept);
      valued = refl;
    } in
    ap (λ value. value.pairs) (one_reading media.kept media (value_of other) reads again)

-- So a range demands nothing else.
pub demands_no_more : (offer media : MediaType) (parameters : List ℕ) (weight : ℕ) → Reads media.kept media
    → parameters ≡ drop (length media.essence) media.kept → IsLoneWeight parameters weight → Some (0, weight) ≡ found_in offer media.pairs
demands_no_more offer media parameters weight reads after (text, (n, spaces, spelled), token, meant) =
    rw (weight_alone media n text reads spaces token (sym after ∙ spelled)) (ap (λ weight. Some (0, weight)) meant)

-- ---- a media type covers itself

-- It has each of its own parameters, and covers itself, but for a weight.
pub covers_itself : CoversItself
covers_itself media =
    let same_bytes = λ (bytes : List ℕ). (bytes_eq-Decides bytes bytes).1 refl in
    let has_own = list_all-from_AllPass (has media) (demanded media.pairs)
    (All-filter (λ pair. is_demanded pair.0) (λ pair. has media pair ≡ true) media.pairs (λ k d within.
    let pair = get_or media.pairs k d in
    list_any_at (λ own. bytes_eq own.0 pair.0 && bytes_eq (unescaped own.1) (unescaped pair.1)) media.pairs k d within
    (and_from _ _ (same_bytes pair.0) (same_bytes (unescaped pair.1))))) in
    rw (has_own, same_bytes media.essence) (grind (arith))

-- ---- what covers an offer is told by what both mean

-- This is the same of parameters as they are meant.
abbrev has_meant : List (List ℕ × List ℕ) → List ℕ × List ℕ → Bool
has_meant meant pair = list_any (λ own. bytes_eq own.0 pair.0 && bytes_eq own.1 pair.1) meant

-- What is demanded of the meanings of parameters is the meaning of what is demanded of them.
demanded-map : (pairs : List (List ℕ × List ℕ)) → demanded (map meaning_of pairs) ≡ map meaning_of (demanded pairs)
demanded-map [] = refl
demanded-map (pair ∷ pairs) = grind (arith, demanded-map pairs)

-- An offer has all that is demanded exactly if its meanings have all that is demanded of the meanings.
all_by_meaning : (offer : MediaType) (pairs : List (List ℕ × List ℕ))
    → list_all (has offer) (demanded pairs) ≡ list_all (has_meant (map meaning_of offer.pairs)) (demanded (map meaning_of pairs))
all_by_meaning offer pairs = search (demanded-map, list_all-map, list_any-map, bytes_eq, rules)

-- A header says the same of media types that mean the same.
pub meaning_counts : MeaningCounts
meaning_counts range other offer offered at same alike weighs = search (all_by_meaning, length-map, demanded-map, rules)
