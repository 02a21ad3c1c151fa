-- A name that is the key's text but for case is as long as that text: it is the name that was cut.
use Rattle.std.proofs.Common.{◌≡◌, ℕ, ◌+◌, ◌≤◌, false, List, ◌∙◌, true, sym, ap, subst, true≢false, take, drop, length, rules}
use Rattle.mime.specs.{Bytes.equals_byte, Inner.Pairs.has_equals, Values.lowered}
use Rattle.mime_search.specs.Rests.{before_byte, after_byte, first_position}
use Rattle.mime.proofs.ValueLemmas.Pairs.{cut_of-name}
use Rattle.mime.proofs.ValueLemmas.KnownNames.{first_equals-named, has_equals-named, first_equals-taken}
use Rattle.mime.proofs.value.pairs.cut_name_for.Goals.{then-not-is_accepted-via-then-not-is_accepted}
use Rattle.mime.proofs.value.pairs.cut_name_for.Goals.{then-not-is_accepted-via-else-not-is_accepted+then-has_equals}
use Rattle.mime.proofs.value.pairs.cut_name_for.Goals as goal

-- Bytes that are a text without an equals sign but for case are the name that is cut, and what follows them follows it.
taken : (body text name end : List ℕ) → name ≡ take (length text) body → end ≡ drop (length text + 1) body
    → first_position equals_byte body ≤ length text → lowered name ≡ lowered text → has_equals text ≡ false
    → (name ≡ before_byte equals_byte body) × (end ≡ after_byte equals_byte body)
taken body text name end name_is end_is least named none =
    let at = first_equals-taken body text (ap lowered (sym name_is) ∙ named) none least in
    (name_is ∙ ap (λ n. take n body) (sym at), end_is ∙ ap (λ n. drop (n + 1) body) (sym at))

pub returns-in_default-clause-other : goal.returns-in_default-clause-other
returns-in_default-clause-other g c = search (first_equals-named, rules)

pub returns-then-not-is_accepted-clause-other : goal.returns-then-not-is_accepted-clause-other
returns-then-not-is_accepted-clause-other g c = λ _.
    let list = c.args.list.now in
    let text = c.in-Some.text.now in (
      c.if-is_only.true,
      elim c.then-not-is_accepted.branch [
        | then-not-is_accepted-via-then-not-is_accepted w ↦
            λ accepted.
            let name = c.in-Some-cut_name_of_size.ensures.name
            ∙ (λ i. take (sym (first_equals-named list text (c.in-Some.ensures _ accepted)) i) (c.without_spaces-list.ensures i)) in
            let wanted = subst (λ n. g.K.ParamKey.Accepts c.args.key.now n true) (sym (cut_of-name list _ name)) accepted in
            true≢false (sym (c.is_accepted.ensures.1 wanted) ∙ w.if-not-is_accepted.true)
        | then-not-is_accepted-via-else-not-is_accepted+then-has_equals w ↦
            λ accepted. true≢false (sym w.if-has_equals.true ∙ w.has_equals.ensures ∙ ap has_equals w.as_bytes.ensures.value
            ∙ has_equals-named list text (c.in-Some.ensures _ accepted))
      ],
    )

pub returns-clause-name : goal.returns-clause-name
returns-clause-name g c =
    let first = c.in-Some-cut_name_of_size.ensures in
    (taken c.without_spaces-list.result c.in-Some.text.now _ _ first.name first.rest first.least
    (c.in-Some.ensures _ (c.is_accepted.ensures.0 c.if-not-is_accepted.false))
    (sym (c.has_equals.ensures ∙ ap has_equals c.as_bytes.ensures.value) ∙ c.if-has_equals.false)).0
    ∙ ap (before_byte equals_byte) c.without_spaces-list.ensures

pub returns-clause-end : goal.returns-clause-end
returns-clause-end g c =
    let first = c.in-Some-cut_name_of_size.ensures in
    (taken c.without_spaces-list.result c.in-Some.text.now _ _ first.name first.rest first.least
    (c.in-Some.ensures _ (c.is_accepted.ensures.0 c.if-not-is_accepted.false))
    (sym (c.has_equals.ensures ∙ ap has_equals c.as_bytes.ensures.value) ∙ c.if-has_equals.false)).1
    ∙ ap (after_byte equals_byte) c.without_spaces-list.ensures
