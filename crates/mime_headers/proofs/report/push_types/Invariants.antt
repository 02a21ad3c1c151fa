-- The values so far are added.
use Rattle.mime_headers.proofs.Common.{AddsType, FoldsTo, None, map, option_map, take, vec_items}
use Rattle.mime_headers.proofs.report.push_types.Given as goal

abbrev pub invariant-loop-value : goal.invariant-loop-value
invariant-loop-value l = FoldsTo AddsType (vec_items l.fn.text, l.fn.good, None) (map vec_items (take l.value-index l.values))
    (vec_items l.text, l.good, option_map (λ mime. mime.media) l.last)
