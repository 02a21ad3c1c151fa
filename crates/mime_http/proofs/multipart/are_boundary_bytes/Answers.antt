-- The table holds whether each byte may stand in a boundary.
use Rattle.std.{proofs.Common.rules, proofs.lemmas.List.Folds.list_all_more}
use Rattle.mime_http.proofs.Common.{ap₂, arith, false, get_or, get_or-map-range_with_len, is_bchar, length, ◌&&◌, ◌<◌}
use Rattle.mime_http.proofs.multipart.are_boundary_bytes.Goals as goal

pub loop-byte-preserved : goal.loop-byte-preserved
loop-byte-preserved c =
    let bytes = c.args.bytes.now in
    let i = c.loop-byte.byte-index in
    let within : i < length bytes = search rules in
    let byte = get_or bytes i 0 in
    let fits : byte < 256 = search (c.type_inv.bytes i, rules) in
    let marked = get_or-map-range_with_len is_bchar 0 256 byte byte false (omega (arith, fits)) (omega arith) in
    rw (list_all_more is_bchar bytes i 0 within) (ap₂ (λ all mark. all && mark) c.loop-byte.invariant marked)
