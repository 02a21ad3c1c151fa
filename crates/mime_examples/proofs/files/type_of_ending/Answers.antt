-- The next row hasn't the ending.
use Rattle.std.proofs.Common.{◌≡◌, ◌∙◌, ◌<◌, [], get_or, length, sym, ap, arith, ⊎_elim}
use Rattle.std.proofs.{lemmas.Bool.cases_lt, lemmas.Bool.true≢false, lemmas.List.get_or-map}
use Rattle.mime.specs.Values.{lowered}
use Rattle.mime_examples.proofs.files.type_of_ending.Goals as goal

pub loop-known-preserved : goal.loop-known-preserved
loop-known-preserved c = λ i row within is same.
    let table = c.args.table.now in
    let last = c.loop-known.known-index in
    ⊎_elim (λ before. c.loop-known.invariant i row before is same)
    (λ after.
    let at : i ≡ last = omega (arith, within, after) in
    let inside : i < length table = omega (arith, at, c.loop-known-test.true) in
    let there = ap (λ it. it.0) (sym is ∙ get_or-map (λ row. (row.0.now, row.1.now)) table i _ row inside) in
    let first = ap (λ k. (get_or table k (record { ref_ptr = (0, 0); now = [] }, record { ref_ptr = (0, 0); now = [] })).0.now) at in
    absurd (true≢false (sym (c.if-eq_ignore_ascii_case.ensures.test.1 (sym same ∙ ap lowered (there ∙ first)))))) (cases_lt i last)
