-- A text whose only pair has no capital before its value is its kept text.
use Rattle.std.proofs.Common.{List, ℕ, ◌≡◌, IfOk, string_bytes, subst, sym}
use Rattle.mime.specs.Inner.KeptText.{with_pairs_lowered}
use Rattle.mime.proofs.value.kept.keep_with_capitals.Goals as goal

pub returns-then-has_low_start : goal.returns-then-has_low_start
returns-then-has_low_start c =
    let text = c.args.text.now in
    let one = c.has_low_start.ensures c.if-has_low_start.true in
    let same = subst (λ n. with_pairs_lowered n c.args.semicolon text ≡ text) (sym c.if-count-eq1.true) one in
    let P : List ℕ → Type 0 = λ t. IfOk c.from_str.result (λ kept. string_bytes kept ≡ t) in
    subst P (sym same) c.from_str.ensures.ok
