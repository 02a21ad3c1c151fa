-- A rest is UTF-8: it may be cut after an ASCII byte.
use Rattle.std.proofs.Common.{◌<◌, length, subst, ap, ◌∙◌, arith}
use Rattle.std.specs.Str.{IsCharBoundary}
use Rattle.std.proofs.{lemmas.Bool.Decides.nat_tests, lemmas.Str.IsCharBoundary-after_ascii}
use Rattle.mime_search.proofs.rest.Rest.begins_with.Goals as goal

pub returns-then-not-is_empty-clause-boundary : goal.returns-then-not-is_empty-clause-boundary
returns-then-not-is_empty-clause-boundary c = λ is ascii.
    let text = c.as_bytes.result.now in
    let within : 0 < length text =
    grind (arith, nat_tests, c.is_empty.ensures, c.if-not-is_empty.true, ap length c.as_bytes.ensures.value) in
    subst (λ t. IsCharBoundary t 1) (c.as_bytes.ensures.value ∙ c.self.view_is)
    (IsCharBoundary-after_ascii text 0 c.as_bytes.ensures.utf8 within (grind (arith, nat_tests, is, ascii)))
