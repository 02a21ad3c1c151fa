-- The last block begins where the others end, or within them, where nothing changes.
use Rattle.std.proofs.Common.{◌-◌, ◌%◌, ◌<◌, ◌≤◌, refl, ◌∙◌, arith}
use Rattle.mime.proofs.ValueLemmas.LoweredTo.{lowered_start-more}
use Rattle.mime.proofs.value.kept.lowercase_start.Goals as goal

pub returns : goal.returns
returns c =
    let bytes = c.args.bytes.now in
    let len = c.args.len in
    let some : 16 ≤ len = c.if-len-lt-BLOCK.false in
    let left : len % 16 < 16 = omega arith in
    let blocks = c.lowercase_range-2.ensures
    ∙ lowered_start-more bytes bytes 0 0 (len - len % 16) refl (omega arith) (omega arith) (omega (arith, c.requires)) in
    c.lowercase_range-3.ensures
    ∙ lowered_start-more _ bytes (len - len % 16) (len - 16) len blocks (omega (arith, left)) (omega (arith, some)) c.requires
