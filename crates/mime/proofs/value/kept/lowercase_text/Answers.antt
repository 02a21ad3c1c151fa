-- Each turn lowercases the first pair of what is left, with what is before it.
use Rattle.std.proofs.Common.{◌-◌, length, length-drop, refl, lit<, ap, ◌∙◌, arith, append-nil, rules}
use Rattle.std.proofs.lemmas.List.{take_all, drop_all, take_rest}
use borrow.Rule.Slice.PartMut.{put_mid}
use Rattle.mime.specs.{Inner.KeptText.with_pairs_lowered}
use Rattle.mime.proofs.BytesLemmas.{boundary_after}
use Rattle.mime.proofs.ValueLemmas.ListText.{lone_charset-text}
use Rattle.mime.proofs.ValueLemmas.Pairs.{cut_before-lies}
use Rattle.mime.proofs.ValueLemmas.LoweredTo.{IsLoweredTo, lowered_to-none, lowered_to-more, lowered_to-sizes, low_within}
use Rattle.mime.proofs.value.kept.lowercase_text.Goals as goal

pub of-left-requires : goal.of-left-requires
of-left-requires c = boundary_after _ _ _ c.utf8.text c.requires.parted (lit< tt)

pub returns-then-is_lone_charset : goal.returns-then-is_lone_charset
returns-then-is_lone_charset c = search (append-nil, take_all, drop_all, lone_charset-text, rules)

pub loop-others-init : goal.loop-others-init
loop-others-init c = lowered_to-none _ _ _ _ _ _ c.requires.same c.of-left.ensures refl c.requires.some

pub overflow_add-low : goal.overflow_add-low
overflow_add-low c =
    let cut = c.cut_before-pair.ensures in
    let within = low_within c.loop-others.left _ _ _ _ _ (cut_before-lies _ _) cut.value_start cut.value c.low_len.ensures in
    omega (arith, within, lowered_to-sizes _ _ _ _ _ c.loop-others.invariant)

pub overflow_add-start : goal.overflow_add-start
overflow_add-start c =
    let cut = c.cut_before-pair.ensures in
    let within = low_within c.loop-others.left _ _ _ _ _ (cut_before-lies _ _) cut.value_start cut.value c.low_len.ensures in
    omega (arith, within, c.len.ensures, lowered_to-sizes _ _ _ _ _ c.loop-others.invariant)

pub lowercase_start-requires-in-loop-others : goal.lowercase_start-requires-in-loop-others
lowercase_start-requires-in-loop-others c =
    let cut = c.cut_before-pair.ensures in
    let within = low_within c.loop-others.left _ _ _ _ _ (cut_before-lies _ _) cut.value_start cut.value c.low_len.ensures in
    let size = ap length (take_rest c.loop-others.bytes c.loop-others.from) ∙ length-drop c.loop-others.from c.loop-others.bytes in
    omega (arith, within, size, c.len.ensures, lowered_to-sizes _ _ _ _ _ c.loop-others.invariant)

-- What a turn leaves.
next_turn : (c : goal.After-len-in-loop-others)
    → let new = put_mid c.loop-others.from (length c.loop-others.bytes - c.loop-others.from) c.loop-others.bytes
    c.lowercase_start-in-loop-others.new.bytes in
    IsLoweredTo new c.cut_before-pair.result.rest (length new - length c.cut_before-pair.result.rest) (c.loop-others.others - 1)
    (with_pairs_lowered c.args.count c.args.semicolon c.args.text.now)
next_turn c =
    let cut = c.cut_before-pair.ensures in
    lowered_to-more c.loop-others.bytes c.loop-others.left _ _ _ c.low_len.result _ _ _ c.loop-others.invariant
    (omega (arith, c.loop-others-test.true)) (c.low_len.ensures ∙ rw (cut.name, cut.value) refl)
    (c.lowercase_start-in-loop-others.ensures ∙ rw (c.len.ensures, cut.value_start) refl) cut.rest

pub overflow_sub-from : goal.overflow_sub-from
overflow_sub-from c = omega (arith, c.len-in-loop-others.ensures, lowered_to-sizes _ _ _ _ _ (next_turn c))

pub loop-others-preserved : goal.loop-others-preserved
loop-others-preserved c = rw c.len-in-loop-others.ensures (next_turn c)
