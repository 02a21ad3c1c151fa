-- The pieces are the row's.
use Rattle.mime_headers.proofs.Common.{append-nil, append_assoc, sym, ◌∙◌}
use Rattle.mime_headers.proofs.report.push_range.Goals as goal

pub returns-then-has_plain_weight : goal.returns-then-has_plain_weight
returns-then-has_plain_weight c =
    let row = simp (c.in_ok-push.ensures, c.as_bytes.ensures.value, append_assoc, append-nil) at c.push-then-has_plain_weight.ensures in
    rw (sym c.has_plain_weight.ensures ∙ c.if-has_plain_weight.true)
    (simp (c.decimals-weight.ensures, c.weight_of.ensures, c.as_str.ensures.text) at row)

pub returns : goal.returns
returns c =
    let row = simp (c.in_ok-push.ensures, c.as_bytes.ensures.value, c.as_str.ensures.text, append_assoc, append-nil) at c.push-2.ensures in
    rw (sym c.has_plain_weight.ensures ∙ c.if-has_plain_weight.false) (simp (c.decimals-weight.ensures, c.weight_of.ensures) at row)
