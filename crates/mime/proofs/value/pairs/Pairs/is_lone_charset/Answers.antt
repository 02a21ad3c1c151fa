-- The list begins with the name and an equals sign, so its one pair has it.
use Rattle.std.proofs.Common.{◌≡◌, ◌∙◌, sym, ap, subst, take}
use Rattle.std.specs.Prelude.{codes}
use Rattle.std.specs.Cmp.Lexicographic.{same_text}
use Rattle.mime.specs.{Inner.Pairs.pairs_within, Inner.ComparedText.IsLoneCharset}
use Rattle.mime.proofs.CompareLemmas.Parts.{lone_charset, lone_charset-bare}
use Rattle.mime.proofs.value.pairs.Pairs.is_lone_charset.Goals as goal

pub returns-then-starts_with : goal.returns-then-starts_with
returns-then-starts_with c = λ is.
    let list = c.self.inside.list in
    let prefix : take 9 list ≡ codes " charset=" = ap (take 9) (sym (c.as_bytes-list.ensures.value ∙ c.text.ensures))
    ∙ sym (same_text _ _ (sym is ∙ c.starts_with.ensures.value)) in
    subst IsLoneCharset (ap (λ n. pairs_within n list) (sym c.if-self-eq1.true) ∙ c.self.view_is) (lone_charset list prefix)

pub returns-else-starts_with : goal.returns-else-starts_with
returns-else-starts_with c = λ is.
    let list = c.self.inside.list in
    let prefix : take 8 list ≡ codes "charset=" = ap (take 8) (sym (c.as_bytes-list.ensures.value ∙ c.text.ensures))
    ∙ sym (same_text _ _ (sym is ∙ c.starts_with-else-starts_with.ensures.value)) in
    subst IsLoneCharset (ap (λ n. pairs_within n list) (sym c.if-self-eq1.true) ∙ c.self.view_is) (lone_charset-bare list prefix)
