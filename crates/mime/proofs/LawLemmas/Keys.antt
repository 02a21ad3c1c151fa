-- What a key finds: at most one answer, and one if it decides each name.
use Rattle.std.proofs.Common.{◌≡◌, ◌≢◌, true, false, ℕ, ◌⊎◌, Bool, List, [], ◌∷◌, Option, Some, None, refl, sym, ap, ◌∙◌, ⊎_elim, rules}
use Rattle.std.proofs.{lemmas.Bool.Decides.Decides-and, lemmas.Option.none-some, lemmas.Option.same_Some, lemmas.Slice.Eq.bytes_eq-Decides}
use Rattle.std.specs.Prelude.{◌&&◌}
use Rattle.std.specs.{Str.bytes_eq, Bool.Decides, Bool.beq, Cmp.booleans_Decides}
use Rattle.mime.specs.{Values.lowered, Items.Item, Items.IsFirstAccepted, Names.NameIs, Laws.IsDecided, Laws.OneAnswer, Laws.HasAnswer}

-- What a test decides is so or isn't.
decided_by : {P : Type 0} (test : Bool) → Decides test P → P ⊎ ¬ P
decided_by test decides = search rules

-- What is so or isn't, and can't be otherwise, is so.
is_so : {P : Type 0} → P ⊎ ¬ P → ¬ (¬ P) → P
is_so is never = search rules

-- Two answers that can't differ are the same.
same_answer : (one other : Option (List ℕ × Bool)) → ¬ (one ≢ other) → one ≡ other
same_answer None None never = refl
same_answer None (Some y) never = absurd (never (λ same. none-some y same))
same_answer (Some x) None never = absurd (never (λ same. none-some x (sym same)))
same_answer (Some (x, f)) (Some (y, g)) never =
    let parts : (Some (x, f) ≡ Some (y, g)) → (x ≡ y) × (f ≡ g) =
    λ same. let pair = same_Some (x, f) (y, g) same in (ap (λ p. p.0) pair, ap (λ p. p.1) pair) in
    let texts : x ≡ y = is_so (decided_by (bytes_eq x y) (bytes_eq-Decides x y)) (λ differ. never (λ same. differ (parts same).0)) in
    let flags : f ≡ g = is_so (decided_by (beq f g) (booleans_Decides f g)) (λ differ. never (λ same. differ (parts same).1)) in
    ap (λ t. Some (t, f)) texts ∙ ap (λ t. Some (y, t)) flags

-- A key finds at most one answer.
pub one_answer : (Accepts : List ℕ → Bool → Type 0) → OneAnswer Accepts
one_answer Accepts items found other is also = same_answer other found (never items is also)
  where
    never : (items : List Item) → IsFirstAccepted Accepts items found → IsFirstAccepted Accepts items other → ¬ (other ≢ found)
    never [] is also differ = differ (also ∙ sym is)
    never (item ∷ items) is also differ =
        let rejects : ¬ (Accepts item.name item.name_ignores_case) = λ accepts. differ (also.0 accepts ∙ sym (is.0 accepts)) in
        never items (is.1 rejects) (also.1 rejects) differ

-- A key that decides of each name finds an answer.
pub has_answer : (Accepts : List ℕ → Bool → Type 0) → HasAnswer Accepts
has_answer Accepts decided [] = (None, refl)
has_answer Accepts decided (item ∷ items) =
    ⊎_elim (λ accepts. (Some (item.value, item.value_ignores_case), (λ is. refl, λ isnt. absurd (isnt accepts))))
    (λ rejects. let rest = has_answer Accepts decided items in (rest.0, (λ is. absurd (rejects is), λ isnt. rest.1)))
    (decided item.name item.name_ignores_case)

-- Whether a name is a text is decided.
pub text_decides : (text : List ℕ) → IsDecided (λ name ignores_case. NameIs name ignores_case text)
text_decides text name true = decided_by (bytes_eq (lowered name) (lowered text)) (bytes_eq-Decides (lowered name) (lowered text))
text_decides text name false = decided_by (bytes_eq name text) (bytes_eq-Decides name text)

-- Whether a key is a name is decided.
pub name_decides : (text : List ℕ) (flag : Bool) → IsDecided (λ name ignores_case. (name ≡ text) × (ignores_case ≡ flag))
name_decides text flag name ignores_case =
    decided_by (bytes_eq name text && beq ignores_case flag)
    (Decides-and (bytes_eq name text) (beq ignores_case flag) (bytes_eq-Decides name text) (booleans_Decides ignores_case flag))
