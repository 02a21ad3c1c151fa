-- The pair is the last one, and what is lowercased of the text ends before the first capital.
use Rattle.std.proofs.Common.{◌+◌, ◌-◌, ◌++◌, ◌∙◌, ◌≡◌, ◌≤◌, ap, arith, drop, length, length-drop, lit<, refl, take}
use Rattle.std.proofs.lemmas.{Bool.Decides.nat_tests, Option.slice_get_within}
use Rattle.mime.specs.{Bytes.semicolon_byte, Values.lowered}
use Rattle.mime.proofs.{BytesLemmas.boundary_after}
use Rattle.mime.proofs.ValueLemmas.LoweredTo.{low_start, one_pair-start}
use Rattle.mime.proofs.value.kept.has_low_start.Goals as goal

pub of-list-requires : goal.of-list-requires
of-list-requires c = boundary_after _ _ _ c.utf8.text c.requires.parted (lit< tt)

pub returns : goal.returns
returns c = λ is.
    let text = c.args.text.now in
    let list = c.of-list.result in
    let cut = c.cut_before-pair in
    let some = slice_get_within text c.args.semicolon semicolon_byte c.requires.parted in
    let at : c.args.semicolon + 1 ≡ length text - c.len.result =
    omega (arith, ap length c.of-list.ensures, length-drop (c.args.semicolon + 1) text, some, c.len.ensures) in
    let end = length text - c.len.result + cut.result.value_start + c.low_len.result in
    let before : end ≤ c.args.capital = grind (arith, nat_tests, is, c.len.ensures) in
    one_pair-start text list c.args.semicolon cut.result.value_start c.low_len.result c.of-list.ensures cut.ensures.value_start
    (c.low_len.ensures ∙ rw (cut.ensures.name, cut.ensures.value) refl)
    ∙ ap (λ n. let k = n + cut.result.value_start + c.low_len.result in lowered (take k text) ++ drop k text) at
    ∙ low_start text end c.args.capital before c.requires.low
