-- One more bit; at the end there is one for each of the bytes.
use Rattle.std.proofs.Common.{◌+◌, ◌∙◌, ap, take, arith, rules, slice_set}
use Rattle.std.proofs.lemmas.List.{take_all}
use Rattle.mime_search.specs.Differences.{difference_bit}
use Rattle.mime_search.proofs.IgnoringCase.{one_more}
use Rattle.mime_search.proofs.ignoring_case.differences.Goals as goal

pub loop-at-preserved : goal.loop-at-preserved
loop-at-preserved c =
    let n = c.loop-at.at in
    let a = c.args.a.now in
    let b = c.args.b.now in
    record {
      within = omega (arith, c.loop-at-test.true);
      long = search rules;
      so_far =
          ap (λ m. take (n + 1) (slice_set c.loop-at.found n m)) c.difference.ensures
          ∙ one_more difference_bit a b c.loop-at.found n (omega arith) (omega arith)
          (omega (arith, c.loop-at.invariant.long)) c.loop-at.invariant.so_far;
    }

pub returns : goal.returns
returns c = search (take_all, rules)
