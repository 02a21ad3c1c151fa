-- Quoted text, and a backslash with the byte that it pairs, were passed; what isn't taken ends the content.
use Rattle.std.proofs.Common.{sym, ◌∙◌}
use Rattle.mime.proofs.ScanLemmas.Passing.{passes_to, reached, taking_none, taking_backslash, taking_paired, content_pair, content_text}
use Rattle.mime.proofs.scan.content.Goals as goal

pub loop-stop-init : goal.loop-stop-init
loop-stop-init c =
    let passes = c.quoted_text-stop.ensures in
    (_, taking_none _, passes_to _ (λ _ is. is) c.skip_quoted_text.ensures (reached passes) passes.stopped)

pub returns-in_err-paired : goal.returns-in_err-paired
returns-in_err-paired c =
    let taking = taking_backslash c.loop-stop.invariant.1 c.loop-stop.invariant.2 (sym c.eq.ensures ∙ c.loop-stop-test.true) in
    rw c.from_residual.ensures (content_pair taking c.in_err-paired.ensures c.in_err-paired.ensures.1)

pub returns-then-not-is_quoted_byte : goal.returns-then-not-is_quoted_byte
returns-then-not-is_quoted_byte c =
    let taking = taking_backslash c.loop-stop.invariant.1 c.loop-stop.invariant.2 (sym c.eq.ensures ∙ c.loop-stop-test.true) in
    content_pair taking c.in_ok-paired.ensures (sym c.is_quoted_byte.ensures ∙ c.if-not-is_quoted_byte.true)

pub loop-stop-preserved : goal.loop-stop-preserved
loop-stop-preserved c =
    let taking = taking_backslash c.loop-stop.invariant.1 c.loop-stop.invariant.2 (sym c.eq.ensures ∙ c.loop-stop-test.true) in (
      _,
      taking_paired taking c.in_ok-paired.ensures (sym c.is_quoted_byte.ensures ∙ c.if-not-is_quoted_byte.false),
      c.quoted_text-stop-in-loop-stop.ensures,
    )

pub returns : goal.returns
returns c = content_text _ c.loop-stop.invariant.1 c.loop-stop.invariant.2 (sym c.eq.ensures ∙ c.loop-stop-test.false)
