-- The lowest_mark bit is the first quote or backslash: the bytes before it are plain, and a backslash is passed with the byte after it.
use Rattle.std.proofs.Common.{◌≡◌, ◌+◌, ◌-◌, ◌/◌, ◌^◌, map, take, drop, ap, ◌∙◌, arith, false}
use Rattle.std.specs.Simd.Lanes.{mask_l}
use Rattle.std.proofs.lemmas.Bool.Decides.{nat_tests}
use Rattle.mime_search.specs.Quoted.{len_from}
use Rattle.std.proofs.lemmas.List.{drop-drop}
use Rattle.mime_search.proofs.Masks.{later-mask}
use Rattle.mime_search.proofs.Quotes.{is_mark, FirstMark, first_mark, no_mark, search_past_pair}
use Rattle.mime_search.proofs.quoted.after_quoted_pairs_among.Goals.{In-loop-left}
use lib.Count.{count_trailing_zeros}
use Rattle.mime_search.proofs.quoted.after_quoted_pairs_among.Goals as goal

-- The lowest of the bits that are left is the first quote or backslash.
lowest_mark : (c : In-loop-left) → FirstMark c.args.text.now c.loop-left.at (c.args.from + c.args.size - c.loop-left.at)
    (c.loop-left.at + count_trailing_zeros 64 c.loop-left.left)
lowest_mark c =
    first_mark _ _ _ _ (omega (arith, c.loop-left.invariant.within, c.requires.within))
    (omega (arith, c.loop-left.invariant.least, c.requires.few)) c.loop-left.invariant.bits c.loop-left-test.true

pub bounds-text-stop : goal.bounds-text-stop
bounds-text-stop c =
    omega (arith, (lowest_mark (goal.at.bounds-text-stop c).In-loop-left).within, c.loop-left.invariant.within, c.requires.within)

pub returns-then-text-stop-eq34-clause-left : goal.returns-then-text-stop-eq34-clause-left
returns-then-text-stop-eq34-clause-left c =
    (lowest_mark (goal.at.returns-then-text-stop-eq34-clause-left c).In-loop-left).left ∙ c.loop-left.invariant.left

pub after_quoted_pair-requires-clause-within : goal.after_quoted_pair-requires-clause-within
after_quoted_pair-requires-clause-within c =
    let mark = lowest_mark (goal.at.after_quoted_pair-requires-clause-within c).In-loop-left in
    omega (arith, mark.within, c.loop-left.invariant.within, c.requires.within)

pub after_quoted_pair-requires-clause-first : goal.after_quoted_pair-requires-clause-first
after_quoted_pair-requires-clause-first c =
    grind (arith, nat_tests, (lowest_mark (goal.at.after_quoted_pair-requires-clause-first c).In-loop-left).mark, c.if-text-stop-eq34.false)

pub returns-then-stop-end-clause-left : goal.returns-then-stop-end-clause-left
returns-then-stop-end-clause-left c =
    let mark = lowest_mark (goal.at.returns-then-stop-end-clause-left c).In-loop-left in
    c.after_quoted_pair.ensures.left ∙ mark.left ∙ c.loop-left.invariant.left

pub loop-left-preserved : goal.loop-left-preserved
loop-left-preserved c =
    let text = c.args.text.now in
    let at = c.loop-left.at in
    let now = c.loop-left.invariant in
    let passed = count_trailing_zeros 64 c.loop-left.left in
    let n = c.args.from + c.args.size - at in
    let mark = lowest_mark (goal.at.loop-left-preserved c).In-loop-left in
    let more : n - (passed + 2) ≡ c.args.from + c.args.size - (at + passed + 2) = omega (arith, now.within) in
    let rest : drop (passed + 2) (drop at text) ≡ drop (at + passed + 2) text =
    drop-drop (passed + 2) at text ∙ ap (λ m. drop m text) (omega arith) in
    record {
      least = omega (arith, now.least);
      within = omega (arith, c.if-stop-end.false);
      bits = ap (λ m. m / 2 ^ (passed + 2)) now.bits
          ∙ later-mask is_mark (passed + 2) n (drop at text) (omega (arith, c.if-stop-end.false, now.within))
          ∙ (λ i. mask_l (map is_mark (take (more i) (rest i))));
      left = search_past_pair text (at + passed) _ (mark.left ∙ now.left) (omega (arith, c.if-stop-end.false, c.requires.within))
          (grind (arith, nat_tests, mark.mark, c.if-text-stop-eq34.false));
    }

pub returns-clause-left : goal.returns-clause-left
returns-clause-left c =
    let text = c.args.text.now in
    let now = c.loop-left.invariant in
    let n = c.args.from + c.args.size - c.loop-left.at in
    let end : c.loop-left.at + n ≡ c.args.from + c.args.size = omega (arith, now.within) in
    omega (
      arith,
      no_mark text c.loop-left.at n _ (omega (arith, now.within, c.requires.within)) (omega (arith, now.least, c.requires.few)) now.bits
          c.loop-left-test.false,
      now.left,
      ap (λ k. k + len_from false (drop k text)) end,
    )
