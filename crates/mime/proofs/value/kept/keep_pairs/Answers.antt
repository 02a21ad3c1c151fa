-- A text without a capital is its kept text.
use Rattle.std.proofs.Common.{List, ℕ, ◌≡◌, ◌∙◌, IfOk, ap, string_bytes, subst, sym, take}
use Rattle.std.proofs.Math.Seq.{take-length}
use Rattle.mime.specs.Values.{lowered}
use Rattle.mime.proofs.{ValueLemmas.Utf8.low-in_part, ValueLemmas.KeptText.kept-in_part}
use Rattle.mime.proofs.value.kept.keep_pairs.Goals as goal

pub returns-then-capital-text : goal.returns-then-capital-text
returns-then-capital-text c =
    let text = c.args.text.now in
    let capital = c.first_capital-capital.result in
    let low = subst (λ t. lowered (take capital t) ≡ take capital t) c.as_bytes.ensures.value c.first_capital-capital.ensures in
    let whole : take capital text ≡ text = ap (λ n. take n text) c.if-capital-text.true ∙ take-length text in
    let none = low-in_part text _ (kept-in_part c.args.count c.args.semicolon text) (subst (λ t. lowered t ≡ t) whole low) in
    let P : List ℕ → Type 0 = λ t. IfOk c.from_str.result (λ kept. string_bytes kept ≡ t) in
    subst P (sym none) c.from_str.ensures.ok
