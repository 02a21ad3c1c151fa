-- If the longer value has no backslash, it means itself, and the other one means other bytes.
use Rattle.mime_http.proofs.Common.{arith, bytes_eq-Decides, fails_before_first, false_from_ne_true, is_mark, nat_tests, sym, unescaped}
use Rattle.mime_http.proofs.Common.{◌≡◌, ◌≢◌}
use Rattle.mime_http.proofs.Contents.{longer_differs, unescaped_same}
use Rattle.mime_http.proofs.Cuts.{mark_found}
use Rattle.mime_http.proofs.meaning.differ_but_mean_the_same.Goals.{then-value-other, else-value-other}
use Rattle.mime_http.proofs.meaning.differ_but_mean_the_same.Goals as goal

pub returns-then-first_stop-longer : goal.returns-then-first_stop-longer
returns-then-first_stop-longer c =
    let value = c.args.value.now in
    let other = c.args.other.now in
    let longer = c.if-value-other.longer.now in
    let first = mark_found _ 92 92 c.of.ensures longer 0 c.first_stop.result c.first_stop.ensures.end in
    let itself : unescaped longer ≡ longer = unescaped_same longer (λ i below is.
    let no = fails_before_first (is_mark 92 92) longer i 0 (grind (arith, nat_tests, first, c.if-first_stop-longer.true, below)) in
    absurd (grind (arith, nat_tests, no, is))) in
    let differ : unescaped value ≢ unescaped other = elim c.if-value-other.branch [
      | then-value-other w ↦ λ same.
          let later : other ≢ value = λ is. c.requires (sym is) in
          longer_differs other value (rw w.longer-is at itself) (omega (arith, w.if-value-other.true)) later (sym same)
      | else-value-other w ↦ longer_differs value other (rw w.longer-is at itself) (omega (arith, w.if-value-other.false)) c.requires
    ] in
    sym (false_from_ne_true _ (λ yes. differ ((bytes_eq-Decides (unescaped value) (unescaped other)).0 yes)))
