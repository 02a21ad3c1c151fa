-- The lanes are those of both vectors, in order.
use Rattle.std.proofs.Common.{◌-◌, ◌++◌, length, take, drop, ap, ◌∙◌, arith, length-append, length-drop}
use Rattle.std.proofs.{lemmas.List.length-take-le, lemmas.List.take_all, lemmas.Simd.pick_l_whole}
use Rattle.mime_search.proofs.start.both_ends.Goals as goal

pub returns : goal.returns
returns c =
    let text = c.args.text.now in
    let back = drop (length text - 8) text in
    let size = length-drop (length text - 8) text in
    pick_l_whole 0 (take 8 text ++ take 8 back) 16 (omega (
      arith,
      length-append (take 8 text) (take 8 back),
      length-take-le 8 text c.requires,
      length-take-le 8 back (omega (arith, size, c.requires)),
    )) ∙ ap (λ t. take 8 text ++ t) (take_all 8 back (omega (arith, size, c.requires)))
