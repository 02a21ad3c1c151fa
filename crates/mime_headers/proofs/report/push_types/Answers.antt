-- The next value is added.
use Rattle.mime_headers.proofs.Common.{Err, FoldsTo-push, Ok, ap, false, map_more, option_map, vec_items}
use Rattle.mime_headers.proofs.report.push_types.Goals as goal

pub loop-value-preserved-in_default : goal.loop-value-preserved-in_default
loop-value-preserved-in_default c =
    let read = rw (c.trimmed.ensures, c.deref.ensures.value, c.in_default.is) at c.in_ok-mime.ensures in
    rw (map_more vec_items c.args.values.now c.loop-value.value-index c.value-item.result c.loop-value-test.true, ← c.value-item.is)
    (FoldsTo-push _ _ _ _ _ _ c.loop-value.invariant
    (Err read.0, read.1, ap (λ text. (text, false, option_map (λ mime. mime.media) c.loop-value.last)) read.2))

pub loop-value-preserved : goal.loop-value-preserved
loop-value-preserved c =
    let read = rw (c.trimmed.ensures, c.deref.ensures.value, c.in-Some.is) at c.in_ok-mime.ensures in
    let rows = c.in_ok-push_media.ensures in
    rw (map_more vec_items c.args.values.now c.loop-value.value-index c.value-item.result c.loop-value-test.true, ← c.value-item.is)
    (FoldsTo-push _ _ _ _ _ _ c.loop-value.invariant (Ok _, read.0, (_, rows.1, simp (rows.2, read.1))))
