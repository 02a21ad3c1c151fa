-- Each part is added after the one before it.
use Rattle.mime_headers.proofs.report.push_head.Goals as goal

pub returns : goal.returns
returns c =
    let accepts = rw (c.deref-2.ensures.value, c.in_ok-accepts.ensures, c.deref.ensures.value) at c.in_ok-ranges.ensures in
    (_, _, _, c.in_ok-only.ensures, accepts, c.in_ok-push_weights.ensures)
