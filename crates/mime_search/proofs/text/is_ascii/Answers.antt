-- Both ends are ASCII, and so is what they have together.
use Rattle.std.proofs.Common.{◌-◌, arith, drop, length, subst, sym, take}
use Rattle.std.proofs.lemmas.List.{length-take-le, take_rest}
use Rattle.std.specs.Str.{IsAscii}
use Rattle.mime_search.proofs.Ascii.{ascii_from_ends}
use Rattle.mime_search.proofs.text.is_ascii.Goals as goal

pub slice_bounds-are_blocks_ascii-end : goal.slice_bounds-are_blocks_ascii-end
slice_bounds-are_blocks_ascii-end c = sym (length-take-le 32 c.args.bytes.now (omega (arith, c.if-len.false)))

pub are_blocks_ascii-requires-2-clause-reach : goal.are_blocks_ascii-requires-2-clause-reach
are_blocks_ascii-requires-2-clause-reach c =
    omega (arith, length-take-le 32 c.args.bytes.now (omega (arith, c.if-len.false)))

pub returns : goal.returns
returns c = λ is.
    let bytes = c.args.bytes.now in
    let n = length bytes in
    let last : IsAscii (drop (n - 32) bytes) = subst IsAscii (take_rest bytes (n - 32)) (c.are_blocks_ascii-3.ensures is) in
    let first : IsAscii (take 32 bytes) = c.are_blocks_ascii-2.ensures c.if-not-are_blocks_ascii.false in
    ascii_from_ends 32 bytes (omega (arith, c.if-len.false)) (omega (arith, c.if-len-gt-QUICK.false)) first last
