-- The run up to the last plus goes on, plus by plus.
use Rattle.std.proofs.Common.{◌≡◌, ◌-◌, ◌+◌, length, [], None, Some, true, refl, sym, ap, ◌∙◌, subst, arith, eqb, ne_eqb, eq-eqb}
use Rattle.std.specs.Prelude.{◌==◌}
use Rattle.std.specs.Option.{option_eq, option_to_list}
use Rattle.std.proofs.lemmas.Bool.{cond-true, cond-false}
use Rattle.mime.specs.{Bytes.plus_byte, Inner.ByteClasses.is_token_except_plus, Inner.Scanning.Passes}
use Rattle.mime.proofs.ScanLemmas.Passing.{reaches_then, stopped_by}
use Rattle.mime.proofs.ScanLemmas.Pluses.{passing_plus, last_plus-run_after, subtype_at}
use Rattle.mime.proofs.scan.subtype.Goals as goal

pub loop-stop-init : goal.loop-stop-init
loop-stop-init c = record {
  mid = c.args.reader.now;
  passing = record { run = []; of_class = refl; given = record { bytes = refl; counted = omega arith } };
  plus = refl;
  passes =
      subst (λ old. Passes is_token_except_plus old c.token-stop.new.reader c.token-stop.result) c.look_further.ensures
      c.token-stop.ensures;
}

pub loop-stop-preserved : goal.loop-stop-preserved
loop-stop-preserved c =
    let so_far = c.loop-stop.invariant in
    let position = c.position.result in
    let more = c.skip_pluses.ensures in
    let plus = position + c.skip_pluses.result in
    let test : option_eq eqb c.loop-stop.stop (Some plus_byte) ≡ true = sym c.eq.ensures ∙ c.loop-stop-test.true in
    let size = ap (λ s. length (option_to_list s)) (stopped_by plus_byte c.loop-stop.stop test) in
    let at : c.args.reader.now.count - c.args.from + (length so_far.passing.run + length so_far.passes.run) ≡ position =
    omega (arith, size, so_far.passing.given.counted, so_far.passes.given.counted, c.position.ensures, c.requires.begun) in
    record {
      mid = c.skip_pluses.new.self;
      passing = reaches_then (passing_plus so_far.passing so_far.passes test) more.passing;
      plus =
          last_plus-run_after _ so_far.passing.run so_far.passes.run more.passing.run position c.skip_pluses.result at more.last
          ∙ sym (cond-false (plus == 0) None (Some plus) (ne_eqb plus 0 (λ zero. omega (arith, at, zero, c.requires.begun))));
      passes = c.token-stop-in-loop-stop.ensures;
    }

pub returns-then-plus-eq0 : goal.returns-then-plus-eq0
returns-then-plus-eq0 c =
    let so_far = c.loop-stop.invariant in
    subtype_at c.loop-stop.stop None _ so_far.passing (so_far.plus ∙ cond-true _ _ _ (eq-eqb _ 0 c.if-plus-eq0.true)) so_far.passes
    (sym c.eq.ensures ∙ c.loop-stop-test.false)

pub returns-else-plus-eq0 : goal.returns-else-plus-eq0
returns-else-plus-eq0 c =
    let so_far = c.loop-stop.invariant in
    subtype_at c.loop-stop.stop _ _ so_far.passing (so_far.plus ∙ cond-false _ _ _ (ne_eqb _ 0 c.if-plus-eq0.false)) so_far.passes
    (sym c.eq.ensures ∙ c.loop-stop-test.false)
