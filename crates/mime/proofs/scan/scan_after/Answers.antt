-- Each way out of the scanner, after the first byte.
use Rattle.std.proofs.Common.{◌≡◌, ℕ, sym, ap, refl, ◌∙◌, ◌∷◌, [], length, Some, None, arith, ne_eqb, eq-eqb}
use Rattle.std.proofs.lemmas.Bool.{and_from, cond-true, cond-false}
use Rattle.mime.specs.Bytes.{slash_byte, semicolon_byte}
use Rattle.mime.specs.Values.{last_plus}
use Rattle.mime.specs.declared.scan.Positions.{Positions}
use Rattle.mime.specs.Inner.Remaining.{Remaining}
use Rattle.mime.specs.Inner.Scanning.{positions_of, before_list, GivesFirst}
use Rattle.mime.proofs.GrammarLemmas.Begun.{walk_from-subtype, in_type, in_subtype}
use Rattle.mime.proofs.ScanLemmas.Passing.{given_then, given_whole}
use Rattle.mime.proofs.ScanLemmas.Verdicts.{Leads, reaches_run, reaches_byte, scans_at}
use Rattle.mime.proofs.ScanLemmas.Lists.{none_walked, type_walked, Subtyped, essence_is, scans_list}
use Rattle.mime.proofs.scan.scan_after.Goals.{After-position-slash, After-subtype-plus}
use Rattle.mime.proofs.scan.scan_after.Goals as goal

pub returns-then-not-is_token : goal.returns-then-not-is_token
returns-then-not-is_token c = λ start gives.
    scans_at None (none_walked gives) (cond-false _ _ _ (sym c.is_token.ensures ∙ c.if-not-is_token.true)) refl

pub returns-in-None : goal.returns-in-None
returns-in-None c = λ start gives.
    scans_at None (type_walked gives (sym c.is_token.ensures ∙ c.if-not-is_token.false)
    c.in-None.ensures)
    c.in-None.ensures.stopped refl

pub returns-in-Some : goal.returns-in-Some
returns-in-Some c = λ start gives.
    scans_at None (type_walked gives (sym c.is_token.ensures ∙ c.if-not-is_token.false)
    c.in-Some.ensures) (cond-false _ _ _ c.in-Some.ensures.stopped ∙ cond-false _ _ _ (ne_eqb _ slash_byte c.in-Some.byte-test.1)) refl

-- The slash after the type leads to an empty subtype, at its position.
slashed : (c : After-position-slash) (start : Remaining) → GivesFirst start c.args.reader.now (Some c.args.first)
    → Leads (in_type []) start c.token.new.reader None (in_subtype (c.args.first ∷ c.in-Some-eq47.ensures.run) [])
slashed c start gives =
    reaches_byte (type_walked gives (sym c.is_token.ensures ∙ c.if-not-is_token.false) c.in-Some-eq47.ensures)
    (cond-false _ _ _ c.in-Some-eq47.ensures.stopped ∙ cond-true _ _ _ (eq-eqb _ slash_byte c.in-Some-eq47.field-0-test))

-- The position of the slash is the length of the type.
slash_is : (c : After-position-slash) → c.position-slash.result ≡ length (c.args.first ∷ c.in-Some-eq47.ensures.run)
slash_is c = omega (arith, c.requires, c.position-slash.ensures, c.count-from.ensures.count, c.in-Some-eq47.ensures.given.counted)

pub returns-in_default : goal.returns-in_default
returns-in_default c = λ start gives.
    let here = goal.at.returns-in_default c in
    scans_at None (reaches_run (slashed here.After-position-slash start gives) c.in_default.ensures.0 refl)
    c.in_default.ensures.1 refl

pub returns-then-not-is_token-2 : goal.returns-then-not-is_token-2
returns-then-not-is_token-2 c = λ start gives.
    let here = goal.at.returns-then-not-is_token-2 c in
    scans_at None (reaches_run (slashed here.After-position-slash start gives) c.in-Some-next.ensures.0 refl)
    (cond-false _ _ _ (sym c.is_token-2.ensures ∙ c.if-not-is_token-2.true)) refl

-- The bytes after the slash lead to a subtype.
subtyped : (c : After-subtype-plus) (start : Remaining) → GivesFirst start c.args.reader.now (Some c.args.first)
    → Leads (in_type []) start c.token.new.reader None (in_subtype (c.args.first ∷ c.in-Some-eq47.ensures.run) [])
    → Subtyped (c.args.first ∷ c.in-Some-eq47.ensures.run) c.in-Some-next.first c.subtype-plus.result.0 start
    c.subtype-plus.new.reader c.subtype-plus.result.1
subtyped c start gives slash =
    let before = gives.0.counted in
    let others = c.in-Some-eq47.ensures.given.counted in
    let next = c.in-Some-next.ensures.0.counted in
    record {
      others = c.subtype-plus.ensures.passes.run;
      walked =
          reaches_run slash (given_then (given_whole c.in-Some-next.ensures.0) c.subtype-plus.ensures.passes.given)
          (walk_from-subtype _ _ (and_from _ _ (sym c.is_token-2.ensures ∙ c.if-not-is_token-2.false)
          c.subtype-plus.ensures.passes.of_class));
      stopped = c.subtype-plus.ensures.passes.stopped;
      plussed =
          c.subtype-plus.ensures.plus ∙ ap (λ at. last_plus at c.subtype-plus.ensures.passes.run)
          (omega (arith, before, others, next, c.count-from.ensures.count));
      counted = omega (arith, before, others, next, c.subtype-plus.ensures.passes.given.counted);
    }

pub returns-in-None-stop : goal.returns-in-None-stop
returns-in-None-stop c = λ start gives.
    let here = goal.at.returns-in-None-stop c in
    let s = rw c.in-None-stop.is at (subtyped here.After-subtype-plus start gives (slashed here.After-position-slash start gives)) in
    scans_at (Some _) s.walked s.stopped
    (ap Some (essence_is _ _ (c.args.first ∷ c.in-Some-eq47.ensures.run) s.others (slash_is here.After-position-slash) s.plussed))

pub returns-in-Some-stop : goal.returns-in-Some-stop
returns-in-Some-stop c = λ start gives.
    let here = goal.at.returns-in-Some-stop c in
    let s = rw c.in-Some-stop.is at (subtyped here.After-subtype-plus start gives (slashed here.After-position-slash start gives)) in
    scans_at (Some _) s.walked
    (cond-false _ _ _ s.stopped ∙ cond-false _ _ _ (ne_eqb _ semicolon_byte (rw c.in-Some-stop.is at c.in-Some-stop.byte-test.1)))
    (ap Some (essence_is _ _ (c.args.first ∷ c.in-Some-eq47.ensures.run) s.others (slash_is here.After-position-slash) s.plussed))

pub returns : goal.returns
returns c = λ start gives.
    let here = goal.at.returns c in
    let s = rw c.in-Some-eq59.is at (subtyped here.After-subtype-plus start gives (slashed here.After-position-slash start gives)) in
    let sub = c.in-Some-next.first ∷ s.others in
    scans_list (reaches_byte s.walked (cond-false _ _ _ s.stopped ∙ cond-true _ _ _
    (eq-eqb _ semicolon_byte (rw c.in-Some-eq59.field-0-is at c.in-Some-eq59.field-0-test))))
    (ap (λ (positions : Positions). record positions { semicolon = Some c.position.result })
    (essence_is _ _ (c.args.first ∷ c.in-Some-eq47.ensures.run) s.others (slash_is here.After-position-slash) s.plussed)
    ∙ ap (λ (at : ℕ). record (positions_of (before_list (c.args.first ∷ c.in-Some-eq47.ensures.run) sub)) { semicolon = Some at })
    (omega (arith, s.counted, gives.0.counted, c.position.ensures, c.count-from.ensures.count)))
    c.parameters.ensures
