-- A byte more of the token is passed, which may be a plus.
use Rattle.std.proofs.Common.{◌+◌, arith, sym, ◌∙◌, subst, ℕ, ◌≤◌}
use Rattle.mime.specs.{Inner.Remaining.reader_at, Inner.Scanning.PassesPluses}
use Rattle.mime.proofs.ScanLemmas.Passing.{gives_at}
use Rattle.mime.proofs.ScanLemmas.Pluses.{pluses_none, pluses_plus, pluses_other}
use Rattle.mime.proofs.scan.reader.end_and_last_plus.Goals.{then-byte-eq43, else-byte-eq43+else-not-is_token}
use Rattle.mime.proofs.scan.reader.end_and_last_plus.Goals as goal

pub loop-at-init : goal.loop-at-init
loop-at-init c = record {
  within = c.requires;
  order = omega arith;
  passes = λ before.
      let at = reader_at c.args.text.now c.args.from before in subst (PassesPluses at at) (omega arith) (pluses_none at);
}

pub loop-at-preserved : goal.loop-at-preserved
loop-at-preserved c =
    let so_far = c.loop-at.invariant in
    let text = c.args.text.now in
    let at = c.loop-at.at in
    let first : c.args.from ≤ at = omega (arith, (so_far.passes 0).passing.given.counted) in
    let Passes : ℕ → ℕ → Type 0 = λ before count. PassesPluses (reader_at text c.args.from before)
    (reader_at text (at + 1) before) count in
    record {
      within = omega (arith, c.loop-at-test.true);
      order = elim c.if-byte-eq43.branch [
        | then-byte-eq43 w ↦ omega (arith, first, w.after_plus-is)
        | else-byte-eq43+else-not-is_token w ↦ omega (arith, so_far.order, w.after_plus-is)
      ];
      passes = λ before. elim c.if-byte-eq43.branch [
        | then-byte-eq43 w ↦ subst (Passes before) (omega (arith, w.after_plus-is))
            (pluses_plus (so_far.passes before) (gives_at text at before c.loop-at-test.true) w.if-byte-eq43.true)
        | else-byte-eq43+else-not-is_token w ↦ subst (Passes before) (omega (arith, w.after_plus-is))
            (pluses_other (so_far.passes before) (gives_at text at before c.loop-at-test.true)
            (sym w.is_token.ensures ∙ w.if-not-is_token.false) w.if-byte-eq43.false)
      ];
    }
