-- The two walks yield the values' pairs.
use Rattle.std.proofs.Common.{◌≡◌, ◌↔◌, ◌∙◌, ℕ, List, IsTrue, sym, ap}
use Rattle.std.specs.{Borrow.Bor, Cmp.Lexicographic.same_text, Str.bytes_eq}
use Rattle.std.specs.Prelude.{◌&&◌}
use Rattle.std.proofs.{lemmas.Bool.Decides.Decides-and, lemmas.Slice.Eq.bytes_eq-Decides}
use Rattle.mime.specs.Inner.Pairs.{pair_seen}
use Rattle.mime.proofs.ValueLemmas.Traits.{same_items}
use Rattle.mime.proofs.value.traits.same_parts.Goals as goal

-- Pairs of texts are the same where their names and their values are.
same_pair : (x y : Bor (List ℕ) × Bor (List ℕ))
    → IsTrue (bytes_eq x.0.now y.0.now && bytes_eq x.1.now y.1.now) ↔ (pair_seen x ≡ pair_seen y)
same_pair x y =
    let told = Decides-and _ _ (bytes_eq-Decides x.0.now y.0.now) (bytes_eq-Decides x.1.now y.1.now) in
    (λ yes. let both = told.0 yes in λ i. (both.0 i, both.1 i), λ same. told.1 (ap (λ p. p.0) same, ap (λ p. p.1) same))

pub returns-then-eq : goal.returns-then-eq
returns-then-eq c =
    let told = same_items pair_seen _ same_pair c.eq-then-eq.result _ _ c.eq-then-eq.ensures.ran in
    let essence = sym c.essence_str.ensures ∙ same_text _ _ (sym c.if-eq.true ∙ c.eq.ensures) ∙ c.essence_str-2.ensures in (
      λ yes. (essence, sym c.pairs.ensures.pairs ∙ told.0 yes ∙ c.pairs-then-eq.ensures.pairs),
      λ same. told.1 (c.pairs.ensures.pairs ∙ same.1 ∙ sym c.pairs-then-eq.ensures.pairs),
    )
