-- Spaces are ASCII: the list may be cut after them.
use Rattle.std.proofs.Common.{◌∙◌, ◌≡◌, ap, subst, length, get_or, arith, rules}
use Rattle.std.specs.Prelude.{IsUtf8}
use Rattle.std.proofs.lemmas.Str.{IsCharBoundary-start, IsCharBoundary-after_ascii}
use Rattle.mime.proofs.ValueLemmas.Pairs.{spaces_border}
use Rattle.mime.proofs.value.pairs.without_spaces.Goals as goal

pub after-requires : goal.after-requires
after-requires c = IsCharBoundary-start c.args.list.now (subst IsUtf8 c.text.ensures c.text.utf8)

pub after-requires-then-bytes-gt32-2 : goal.after-requires-then-bytes-gt32-2
after-requires-then-bytes-gt32-2 c =
    let list = c.args.list.now in
    let bytes = c.as_bytes-bytes.ensures.value ∙ c.text.ensures in
    let space : get_or list 0 0 ≡ 32 = subst (λ t. get_or t 0 0 ≡ 32) bytes c.if-bytes-eq32.true in
    IsCharBoundary-after_ascii list 0 (subst IsUtf8 c.text.ensures c.text.utf8) (omega (arith, c.if-bytes-gt1.true, ap length bytes))
    (omega (arith, space))

pub after-requires-2 : goal.after-requires-2
after-requires-2 c = search (spaces_border, rules)
