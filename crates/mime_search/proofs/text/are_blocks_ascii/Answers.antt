-- The search stops in neither block.
use Rattle.std.proofs.Common.{◌-◌, ◌+◌, ◌≡◌, arith, drop, length, length-drop, subst, take}
use Rattle.std.proofs.lemmas.List.{take_all}
use Rattle.std.proofs.lemmas.Bool.Decides.{nat_tests}
use Rattle.std.specs.Str.{IsAscii}
use Rattle.mime_search.proofs.Ascii.{ascii_from_ends, ascii_unless_stopped}
use Rattle.mime_search.proofs.text.are_blocks_ascii.Goals as goal

pub returns : goal.returns
returns c = λ is.
    let bytes = c.args.bytes.now in
    let none : c.stops_in_block-first.result + c.stops_in_block-last.result ≡ 0 = grind (arith, nat_tests, is) in
    let first = ascii_unless_stopped (take 16 bytes) (omega (arith, none, c.stops_in_block-first.ensures.mask)) in
    let last = ascii_unless_stopped (take 16 (drop (length bytes - 16) bytes)) (omega (arith, none, c.stops_in_block-last.ensures.mask)) in
    let all = take_all 16 (drop (length bytes - 16) bytes) (omega (arith, length-drop (length bytes - 16) bytes)) in
    ascii_from_ends 16 bytes c.requires.room c.requires.reach first (subst IsAscii all last)
