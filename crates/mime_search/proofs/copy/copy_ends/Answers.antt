-- The last bytes follow those of the first that are before them.
use Rattle.std.proofs.Common.{◌≡◌, ◌-◌, length, take, drop, sym, ap, ◌∙◌, arith, length-drop, length-take, take-append-drop}
use Rattle.std.specs.Simd.Lanes.{put_chunk}
use Rattle.std.proofs.{lemmas.List.take_all, lemmas.List.take-take, lemmas.Simd.take_more_put_chunk, lemmas.Simd.length-put_chunk}
use Rattle.mime_search.proofs.copy.copy_ends.Goals as goal

pub returns : goal.returns
returns g c =
    let bytes = c.args.bytes.now in
    let part = g.row.N in
    let last = length bytes - part in
    let mid = put_chunk 0 c.args.out.now (take part bytes) in
    let whole = put_chunk last mid (take part (drop last bytes)) in
    let end : take part (drop last bytes) ≡ drop last bytes = take_all part (drop last bytes) (omega (arith, length-drop last bytes)) in
    let first : take part mid ≡ take part bytes =
    take_more_put_chunk 0 c.args.out.now (take part bytes) part (omega (arith, length-take part bytes)) (omega (arith, c.requires.same)) in
    let start : take last mid ≡ take last bytes =
    sym (take-take last part mid (omega (arith, c.requires.reach))) ∙ ap (take last) first
    ∙ take-take last part bytes (omega (arith, c.requires.reach)) in
    sym (take_all (length bytes) whole (omega (
      arith,
      c.requires.same,
      length-put_chunk last mid (take part (drop last bytes)),
      length-put_chunk 0 c.args.out.now (take part bytes),
    ))) ∙ take_more_put_chunk last mid (take part (drop last bytes)) (length bytes) (omega (arith, ap length end, length-drop last bytes))
    (omega (arith, c.requires.same, length-put_chunk 0 c.args.out.now (take part bytes))) ∙ cc (start, end, take-append-drop last bytes)
