-- A line is empty, is passed over, or is the last.
use Rattle.std.proofs.Common.{rules, ◌≡◌, ◌≢◌, ◌∷◌, [], ℕ, List, Option, Some, None, ap, arith, length}
use Rattle.std.proofs.lemmas.Bool.{true≢false}
use Rattle.mime_examples.specs.Multipart.{IsContent, after_empty, after_full, empty_last, full_last}
use Rattle.mime_examples.proofs.multipart.content_of.Goals as goal

-- After an empty last line nothing is left.
nothing_left : (left part : List ℕ) → length left ≡ 0 → ((found : Option (List ℕ)) → IsContent left found → IsContent part found)
    → IsContent part (Some left)
nothing_left [] part none goes = goes (Some []) empty_last
nothing_left (b ∷ left) part none goes = absurd (omega (arith, none))

pub returns-then-is_empty_line : goal.returns-then-is_empty_line
returns-then-is_empty_line c = search (after_empty, rules)

pub loop-first-preserved : goal.loop-first-preserved
loop-first-preserved c = search (after_full, rules)

pub returns-then-is_empty : goal.returns-then-is_empty
returns-then-is_empty c =
    let none : length c.loop-first.left.now ≡ 0 = search rules in
    nothing_left c.loop-first.left.now c.args.part.now none c.loop-first.invariant

pub returns-else-is_empty : goal.returns-else-is_empty
returns-else-is_empty c =
    let some : length c.loop-first.left.now ≢ 0 = search (true≢false, rules) in
    c.loop-first.invariant None (full_last c.loop-first.left.now c.in_default.ensures (λ is. some (ap length is)))
