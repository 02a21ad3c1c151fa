-- The bytes before the first backslash mean themselves. Then each byte is the next that is meant, or a backslash before it.
use Rattle.std.proofs.Common.{◌≡◌, ◌+◌, ◌≤◌, ◌∷◌, ◌++◌, ℕ, List, [], false, length, take, drop, get_or, arith}
use Rattle.std.proofs.{lemmas.Grind.common_steps, lemmas.Bool.Decides.nat_tests, lemmas.List.drop_more, lemmas.List.drop-drop}
use Rattle.mime_search.specs.{Classes.is_stop, Quoted.meant_from}
use Rattle.mime_search.proofs.Quotes.{meant_before}
use Rattle.mime_search.proofs.quoted.copy_meant.Goals.{then-content-at-eq92+else-at-content, else-content-at-eq92}
use Rattle.mime_search.proofs.quoted.copy_meant.Goals as goal

-- All is written if what is left means nothing.
all_written : (old out meant : List ℕ) {left : List ℕ} {end : ℕ} → take end out ++ left ≡ meant → drop end out ≡ drop end old
    → end ≤ length out → left ≡ [] → (out ≡ meant ++ drop end old) × (end ≡ length meant)
all_written old out meant written behind within none = grind (arith, common_steps, written, behind, within, none)

pub loop-at-init : goal.loop-at-init
loop-at-init c =
    let at = c.first_stop-at.ensures in
    let before = meant_before (is_stop c.of.result) c.of.ensures c.args.content.now in
    record {
      least = omega arith;
      within = at.within;
      written = grind (arith, common_steps, before, at.end, c.copy_bytes.ensures, at.within);
      behind = grind (arith, common_steps, c.copy_bytes.ensures, at.within);
      long = grind (arith, common_steps, c.copy_bytes.ensures, at.within, c.requires);
    }

pub loop-at-preserved : goal.loop-at-preserved
loop-at-preserved c =
    let content = c.args.content.now in
    let from = c.loop-at.at in
    let at = c.if-content-at-eq92.at in
    let seen = c.loop-at.invariant in
    let byte = drop_more content from 0 in
    let next : (from ≤ at) × (at + 1 ≤ length content) × (meant_from false (drop from content) ≡ get_or content at 0
    ∷ meant_from false (drop (at + 1) content)) =
    elim c.if-content-at-eq92.branch [
      | then-content-at-eq92+else-at-content w ↦
          let paired = drop_more content (from + 1) 0 in
          grind (arith, nat_tests, w.at-is, w.if-content-at-eq92.true, byte, paired, w.if-at-content.false, c.loop-at-test.true)
      | else-content-at-eq92 w ↦ grind (arith, nat_tests, w.at-is, w.if-content-at-eq92.false, byte, c.loop-at-test.true)
    ] in
    record {
      least = omega (arith, next.0, seen.least);
      within = next.1;
      written = grind (arith, common_steps, next.2, seen.written, seen.least, seen.long, c.requires, c.loop-at-test.true);
      behind = grind (arith, common_steps, drop-drop, seen.behind);
      long = grind (arith, common_steps, seen.long);
    }

pub returns-then-at-content : goal.returns-then-at-content
returns-then-at-content c =
    let seen = c.loop-at.invariant in
    let last = drop_more c.args.content.now c.loop-at.at 0 in
    let none : meant_from false (drop c.loop-at.at c.args.content.now) ≡ [] =
    grind (arith, nat_tests, common_steps, last, c.if-content-at-eq92.true, c.if-at-content.true) in
    let within : c.loop-at.end ≤ length c.loop-at.out = omega (arith, seen.least, seen.within, seen.long, c.requires) in
    let all = all_written c.args.out.now c.loop-at.out _ seen.written seen.behind within none in
    record { bytes = all.0; size = all.1; within = omega (arith, seen.least, seen.within) }

pub returns : goal.returns
returns c =
    let seen = c.loop-at.invariant in
    let none : meant_from false (drop c.loop-at.at c.args.content.now) ≡ [] = grind (arith, common_steps, c.loop-at-test.false) in
    let within : c.loop-at.end ≤ length c.loop-at.out = omega (arith, seen.least, seen.within, seen.long, c.requires) in
    let all = all_written c.args.out.now c.loop-at.out _ seen.written seen.behind within none in
    record { bytes = all.0; size = all.1; within = omega (arith, seen.least, seen.within) }
