-- One more pair of bytes: they are equal ignoring ASCII case, or a difference stays noted from there on.
use Rattle.std.proofs.Common.{◌≡◌, ◌+◌, [], ◌∷◌, ◌++◌, get_or, take, sym, ◌∙◌, arith}
use Rattle.std.specs.Char.{to_ascii_lowercase}
use Rattle.std.proofs.lemmas.List.{map_more, same_from_push}
use Rattle.mime_search.specs.IgnoringCase.{lowered}
use Rattle.mime_search.proofs.IgnoringCase.{together, no_bit_at}
use Rattle.mime_search.proofs.ignoring_case.eq_byte_by_byte.Goals as goal

pub loop-at-preserved : goal.loop-at-preserved
loop-at-preserved c =
    let a = c.args.a.now in
    let b = c.args.b.now in
    let n = c.loop-at.at in
    let x = to_ascii_lowercase (get_or a n 0) in
    let y = to_ascii_lowercase (get_or b n 0) in
    let more_a : lowered (take (n + 1) a) ≡ lowered (take n a) ++ (x ∷ []) = map_more to_ascii_lowercase a n 0 (omega arith) in
    let more_b : lowered (take (n + 1) b) ≡ lowered (take n b) ++ (y ∷ []) = map_more to_ascii_lowercase b n 0 (omega arith) in
    record {
      within = omega (arith, c.loop-at-test.true);
      so_far =
          together c.loop-at.differs c.difference-differs.result _ (x ≡ y) _ c.loop-at.invariant.so_far
          (no_bit_at (get_or a n 0) (get_or b n 0) _ c.difference-differs.ensures)
          (λ prefix last. let same : lowered (take n a) ++ (x ∷ []) ≡ lowered (take n b) ++ (y ∷ []) = cc in
          more_a ∙ same ∙ sym more_b)
          (λ whole. same_from_push (lowered (take n a)) (lowered (take n b)) x y (sym more_a ∙ whole ∙ more_b));
    }
