-- The first name of a list, found by its length: no equals sign is in it, and one follows it, or the end of the list.
use Rattle.std.proofs.Common.{⊎_elim, ◌≡◌, ◌≢◌, ℕ, suc, ◌<◌, ◌≤◌, true, false, List, [], ◌∷◌, length, get_or, refl, sym, ap, ◌∙◌, arith}
use Rattle.std.proofs.Common.{take, subst, rules}
use Rattle.std.specs.Prelude.{◌==◌, not}
use Rattle.std.specs.Char.{to_ascii_lowercase}
use Rattle.std.proofs.lemmas.Bool.Decides.{nat_tests}
use Rattle.std.proofs.lemmas.List.Sums.{prefix_len_passes, prefix_len_stops}
use Rattle.std.proofs.lemmas.List.Folds.{length-prefix_len, list_any_at}
use Rattle.std.proofs.lemmas.List.{get_or-take, length-take}
use Rattle.std.proofs.lemmas.Bool.{cases_Bool, cases_lt, eqb-true, true≢false}
use Rattle.mime.specs.{Bytes.equals_byte, Values.lowered, Inner.Pairs.without_spaces, Inner.Pairs.cut_of, Inner.Pairs.has_equals}
use Rattle.mime_search.specs.Rests.{first_position, before_byte}
use Rattle.mime.proofs.{LowercaseLemmas.length-lowered, ValueLemmas.Pairs.cut_of-name}

-- An equals sign isn't before the first one.
pub first_equals-le : (text : List ℕ) (n : ℕ) → get_or text n 0 ≡ equals_byte → first_position equals_byte text ≤ n
first_equals-le text n is = search (prefix_len_passes, cases_lt, true≢false, rules)

-- The byte at the first position of an equals sign is one, unless the text ends.
get_or-first_equals : (text : List ℕ) → first_position equals_byte text < length text
    → get_or text (first_position equals_byte text) 0 == equals_byte ≡ true
get_or-first_equals text within = grind (arith, nat_tests, prefix_len_stops (λ b. not (b == equals_byte)) text 0 within)

-- The first position of an equals sign isn't that of any other byte.
pub first_equals-other : (text : List ℕ) (n : ℕ) → n < length text → get_or text n 0 ≢ equals_byte
    → first_position equals_byte text ≢ n
first_equals-other text n within other is =
    other (subst (λ k. get_or text k 0 ≡ equals_byte) is (eqb-true _ equals_byte (get_or-first_equals text (omega (arith, within, is)))))

-- Lowercasing neither adds an equals sign nor removes one.
has_equals-lowered : (text : List ℕ) → has_equals (lowered text) ≡ has_equals text
has_equals-lowered [] = refl
has_equals-lowered (b ∷ text) =
    let equals : (to_ascii_lowercase b == equals_byte) ≡ (b == equals_byte) = grind (arith, nat_tests) in
    rw (equals, has_equals-lowered text)

-- Texts that are the same but for case both have an equals sign, or neither.
has_equals-case : (text other : List ℕ) → lowered text ≡ lowered other → has_equals text ≡ has_equals other
has_equals-case text other is = sym (has_equals-lowered text) ∙ ap has_equals is ∙ has_equals-lowered other

-- The text before the first equals sign has none.
has_equals-before : (text : List ℕ) → has_equals (before_byte equals_byte text) ≡ false
has_equals-before [] = refl
has_equals-before (b ∷ text) = ⊎_elim
    (λ (is : b == equals_byte ≡ true). rw is refl)
    (λ (other : b == equals_byte ≡ false).
    let on : suc (first_position equals_byte text) ≡ first_position equals_byte (b ∷ text) = rw other (omega arith) in
    subst (λ n. has_equals (take n (b ∷ text)) ≡ false) on (rw other (has_equals-before text))) (cases_Bool (b == equals_byte))

-- A name that is a text but for case is as long as the text.
pub first_equals-named : (list text : List ℕ) → lowered (cut_of list).name ≡ lowered text
    → first_position equals_byte (without_spaces list) ≡ length text
first_equals-named list text is = search (length-prefix_len, length-lowered, cut_of-name, rules)

-- A text that is a list's first name but for case has no equals sign.
pub has_equals-named : (list text : List ℕ) → lowered (cut_of list).name ≡ lowered text → has_equals text ≡ false
has_equals-named list text is =
    sym (has_equals-case (cut_of list).name text is) ∙ ap has_equals (sym (cut_of-name list _ refl))
    ∙ has_equals-before (without_spaces list)

-- Bytes that are a text without an equals sign, but for case, end at the first one, if that isn't after them.
pub first_equals-taken : (body text : List ℕ) → lowered (take (length text) body) ≡ lowered text → has_equals text ≡ false
    → first_position equals_byte body ≤ length text → first_position equals_byte body ≡ length text
first_equals-taken body text is none least = ⊎_elim
    (λ (before : first_position equals_byte body < length text).
    let at = first_position equals_byte body in
    let size : length (take (length text) body) ≡ length text = sym (length-lowered _) ∙ ap length is ∙ length-lowered text in
    let within : at < length body = omega (arith, before, size, length-take (length text) body) in
    let there = get_or-take (length text) body at 0 before in
    absurd (true≢false (
    sym (list_any_at (λ b. b == equals_byte) (take (length text) body) at 0 (omega (arith, before, size))
    (rw there (get_or-first_equals body within))) ∙ has_equals-case _ text is ∙ none)))
    (λ (after : length text ≤ first_position equals_byte body). omega (arith, after, least))
    (cases_lt (first_position equals_byte body) (length text))
