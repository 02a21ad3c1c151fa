-- Each way out of the loop, and one turn of it.
use Rattle.std.proofs.Common.{ℕ, List, ◌∷◌, [], None, Some, refl, sym, ap, ◌∙◌, arith, ne_eqb, eq-eqb}
use Rattle.std.proofs.lemmas.Bool.{cond-false, cond-true}
use Rattle.mime.specs.{Bytes.quote_byte, Bytes.equals_byte, Grammar.Parameter}
use Rattle.mime.proofs.GrammarLemmas.Begun.{in_value}
use Rattle.mime.proofs.ScanLemmas.Passing.{given_less}
use Rattle.mime.proofs.ScanLemmas.Verdicts.{ListLeads, list_run, list_byte, list_scans_at}
use Rattle.mime.proofs.ScanLemmas.Lists.{one_pair_more, spaces_walked, name_walked, quotes_walked, Valued, valued_token, valued_quotes}
use Rattle.mime.proofs.scan.parameters.Goals.{In-Some-eq61, Joined-first-eq34, then-first-eq34+in-Some-eq34, else-first-eq34+then-is_token}
use Rattle.mime.proofs.scan.parameters.Goals as goal

pub returns-in_default : goal.returns-in_default
returns-in_default c =
    list_scans_at (Some _) (spaces_walked c.loop-first.invariant c.in_default.ensures) c.in_default.ensures.stopped
    (ap Some c.loop-first.invariant.same_positions)

pub returns-then-not-is_token : goal.returns-then-not-is_token
returns-then-not-is_token c =
    list_scans_at (Some _) (spaces_walked c.loop-first.invariant c.in-Some.ensures)
    (cond-false _ _ _ c.in-Some.ensures.stopped ∙ cond-false _ _ _ (sym c.is_token.ensures ∙ c.if-not-is_token.true))
    (ap Some c.loop-first.invariant.same_positions)

pub returns-in-None : goal.returns-in-None
returns-in-None c =
    list_scans_at None
    (name_walked c.loop-first.invariant c.in-Some.ensures (sym c.is_token.ensures ∙ c.if-not-is_token.false) c.in-None.ensures)
    c.in-None.ensures.stopped refl

pub returns-in-Some-token : goal.returns-in-Some-token
returns-in-Some-token c =
    list_scans_at None
    (name_walked c.loop-first.invariant c.in-Some.ensures (sym c.is_token.ensures ∙ c.if-not-is_token.false) c.in-Some-token.ensures)
    (cond-false _ _ _ c.in-Some-token.ensures.stopped ∙ cond-false _ _ _ (ne_eqb _ equals_byte c.in-Some-token.byte-test.1)) refl

-- A parameter's name and its equals sign.
named : (c : In-Some-eq61) → ListLeads c.args.reader.now c.token.new.reader None (record {
  closed = c.loop-first.invariant.closed;
  position = in_value c.in-Some.ensures.run (c.in-Some.first ∷ c.in-Some-eq61.ensures.run) [];
})
named c =
    list_byte
    (name_walked c.loop-first.invariant c.in-Some.ensures (sym c.is_token.ensures ∙ c.if-not-is_token.false) c.in-Some-eq61.ensures)
    (cond-false _ _ _ c.in-Some-eq61.ensures.stopped ∙ cond-true _ _ _ (eq-eqb _ equals_byte c.in-Some-eq61.field-0-test))

pub returns-in_default-next : goal.returns-in_default-next
returns-in_default-next c =
    list_scans_at None (list_run (named (goal.at.returns-in_default-next c).In-Some-eq61) c.in_default-next.ensures.0 refl)
    c.in_default-next.ensures.1 refl

pub returns-in-None-content : goal.returns-in-None-content
returns-in-None-content c =
    let name = named (goal.at.returns-in-None-content c).In-Some-eq61 in
    list_scans_at None (quotes_walked name c.in-Some-next.ensures c.if-first-eq34.true c.in-None-content.ensures)
    c.in-None-content.ensures.stopped refl

pub returns-in-Some-content : goal.returns-in-Some-content
returns-in-Some-content c =
    let name = named (goal.at.returns-in-Some-content c).In-Some-eq61 in
    list_scans_at None (quotes_walked name c.in-Some-next.ensures c.if-first-eq34.true c.in-Some-content.ensures)
    (cond-false _ _ _ c.in-Some-content.ensures.stopped ∙ cond-false _ _ _ (ne_eqb _ quote_byte c.in-Some-content.byte-test.1)) refl

pub returns-else-is_token : goal.returns-else-is_token
returns-else-is_token c =
    list_scans_at None (list_run (named (goal.at.returns-else-is_token c).In-Some-eq61) c.in-Some-next.ensures.0 refl)
    (cond-false _ _ _ (sym c.is_token-else-first-eq34.ensures ∙ c.if-is_token.false)
    ∙ cond-false _ _ _ (ne_eqb _ quote_byte c.if-first-eq34.false)) refl

-- A parameter's value leads to its state.
valued : {closed : List (List ℕ × Parameter)} {spaces name : List ℕ} (c : Joined-first-eq34)
    → ListLeads c.args.reader.now c.token.new.reader None (record { closed = closed; position = in_value spaces name [] })
    → Valued closed spaces c.args.reader.now c.token.new.reader c.if-first-eq34.reader c.if-first-eq34.stop
valued c name =
    elim c.if-first-eq34.branch [
      | then-first-eq34+in-Some-eq34 w ↦
          rw (w.reader-is, w.stop-is)
          (valued_quotes name c.in-Some-next.ensures w.if-first-eq34.true w.in-Some-eq34.ensures w.in-Some-eq34.field-0-test
          w.spaces-stop.ensures)
      | else-first-eq34+then-is_token w ↦
          rw (w.reader-is, w.stop-is)
          (valued_token name c.in-Some-next.ensures (sym w.is_token-else-first-eq34.ensures ∙ w.if-is_token.true)
          w.token-then-is_token.ensures)
    ]

pub returns-in-None-stop : goal.returns-in-None-stop
returns-in-None-stop c =
    let here = goal.at.returns-in-None-stop c in
    let v = rw c.in-None-stop.is at (valued here.Joined-first-eq34 (named here.In-Some-eq61)) in
    list_scans_at (Some _) v.walked v.stopped (ap Some (one_pair_more _ _ _ c.loop-first.invariant.same_positions)
    ∙ sym (v.counted c.args.before))

pub returns-in-Some-stop : goal.returns-in-Some-stop
returns-in-Some-stop c =
    let here = goal.at.returns-in-Some-stop c in
    let v = rw c.in-Some-stop.is at (valued here.Joined-first-eq34 (named here.In-Some-eq61)) in
    list_scans_at (Some _) v.walked (v.stopped (rw c.in-Some-stop.is at c.in-Some-stop.byte-test.1))
    (ap Some (one_pair_more _ _ _ c.loop-first.invariant.same_positions) ∙ sym (v.counted c.args.before))

pub loop-first-preserved : goal.loop-first-preserved
loop-first-preserved c =
    let here = goal.at.loop-first-preserved c in
    let v = rw c.in-Some-eq59.is at (valued here.Joined-first-eq34 (named here.In-Some-eq61)) in
    record {
      closed = (c.in-Some.ensures.run, v.parameter) ∷ c.loop-first.invariant.closed;
      walked = list_byte v.walked (rw (rw c.in-Some-eq59.field-0-is at c.in-Some-eq59.field-0-test) v.closing);
      same_positions = one_pair_more _ _ _ c.loop-first.invariant.same_positions
          ∙ ap (λ n. record c.args.before { pair_count = n }) (omega arith);
      room = omega (arith, v.less, given_less c.in-Some.ensures.given, given_less c.in-Some-eq61.ensures.given);
    }
