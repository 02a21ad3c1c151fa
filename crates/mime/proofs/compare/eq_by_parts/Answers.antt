-- A text is equal to the value where it has the value's essence and its pairs, and is accepted.
use Rattle.std.proofs.Common.{true≢false, sym, ◌∙◌}
use Rattle.mime.proofs.CompareLemmas.Parts.{text_is-by_parts, accepted_at-case}
use Rattle.mime.proofs.compare.eq_by_parts.Goals as goal

pub returns-then-not-starts_with_essence : goal.returns-then-not-starts_with_essence
returns-then-not-starts_with_essence c =
    let by_parts = text_is-by_parts _ _ c.args.mime.now.media c.requires.reads c.requires.some in
    let told = rw c.essence_str-essence.ensures at c.starts_with_essence.ensures in (
      λ bad. absurd (true≢false (sym bad)),
      λ is. absurd (true≢false (sym (told.1 (by_parts.0 is).list) ∙ c.if-not-starts_with_essence.true)),
    )

pub returns-then-not-are_pairs : goal.returns-then-not-are_pairs
returns-then-not-are_pairs c =
    let by_parts = text_is-by_parts _ _ c.args.mime.now.media c.requires.reads c.requires.some in
    let told = rw (c.pairs.ensures.pairs, c.of_text.ensures, c.param_count.ensures, c.essence_str-essence.ensures) at c.are_pairs.ensures in
    (λ bad. absurd (true≢false (sym bad)), λ is. absurd (true≢false (sym (told.1 (by_parts.0 is).pairs) ∙ c.if-not-are_pairs.true)))

pub returns-then-equal_ignoring_case : goal.returns-then-equal_ignoring_case
returns-then-equal_ignoring_case c =
    let by_parts = text_is-by_parts _ _ c.args.mime.now.media c.requires.reads c.requires.some in
    let list = rw c.essence_str-essence.ensures at c.starts_with_essence.ensures in
    let pairs = rw (
      c.pairs.ensures.pairs,
      c.of_text.ensures,
      c.param_count.ensures,
      c.essence_str-essence.ensures,
    ) at c.are_pairs.ensures in
    let accepted = accepted_at-case _ _ c.args.mime.now.media c.requires.reads c.requires.some in (
      λ yes. by_parts.1 (record {
        list = list.0 c.if-not-starts_with_essence.false;
        pairs = pairs.0 c.if-not-are_pairs.false;
        accepted = accepted (c.requires.equal yes);
      }),
      λ _. c.if-equal_ignoring_case.true,
    )

pub returns-else-equal_ignoring_case : goal.returns-else-equal_ignoring_case
returns-else-equal_ignoring_case c =
    let by_parts = text_is-by_parts _ _ c.args.mime.now.media c.requires.reads c.requires.some in
    let list = rw c.essence_str-essence.ensures at c.starts_with_essence.ensures in
    let pairs = rw (
      c.pairs.ensures.pairs,
      c.of_text.ensures,
      c.param_count.ensures,
      c.essence_str-essence.ensures,
    ) at c.are_pairs.ensures in
    let accepted = c.has_list_of.ensures in (
      λ yes. by_parts.1 (record {
        list = list.0 c.if-not-starts_with_essence.false;
        pairs = pairs.0 c.if-not-are_pairs.false;
        accepted = accepted.0 yes;
      }),
      λ is. accepted.1 (by_parts.0 is).accepted,
    )
