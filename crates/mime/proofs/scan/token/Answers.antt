-- The bytes so far, those up to a stop that is known or found by a call, and the stop, if it is of the class.
use Rattle.std.proofs.Common.{sym, ◌∙◌, rules}
use Rattle.mime.specs.Inner.ByteClasses.{token_bytes}
use Rattle.mime.proofs.ScanLemmas.Passing.{passing_more, passing_none, passing_with, passes_to, reaches_wider}
use Rattle.mime.proofs.ScanLemmas.Pluses.{token_bytes-wider}
use Rattle.mime.proofs.scan.token.Goals.{in-Some+else-not-is_in_token, in_default}
use Rattle.mime.proofs.scan.token.Goals as goal

pub returns-then-not-is_in_token : goal.returns-then-not-is_in_token
returns-then-not-is_in_token c =
    passes_to _ (token_bytes-wider c.args.with_plus) (passing_none (token_bytes c.args.with_plus) _) c.in-Some.ensures
    (sym c.is_in_token.ensures ∙ c.if-not-is_in_token.true)

pub loop-reader-init : goal.loop-reader-init
loop-reader-init c =
    elim c.match-known_stop.branch [
      | in-Some+else-not-is_in_token w ↦
          passing_with (token_bytes-wider c.args.with_plus) (passing_none (token_bytes c.args.with_plus) _) w.in-Some.ensures
          (sym w.is_in_token.ensures ∙ w.if-not-is_in_token.false)
      | in_default w ↦ reaches_wider (token_bytes-wider c.args.with_plus) w.in_default.ensures
    ]

pub loop-reader-preserved : goal.loop-reader-preserved
loop-reader-preserved c = search (passing_more, rules)

pub returns-then-not-is_in_token-3 : goal.returns-then-not-is_in_token-3
returns-then-not-is_in_token-3 c =
    passes_to _ (λ _ is. is) c.loop-stop.invariant c.in-Some-next_far.ensures.reaches
    (sym c.is_in_token-in-Some-next_far.ensures ∙ c.if-not-is_in_token-3.true)

pub loop-stop-preserved : goal.loop-stop-preserved
loop-stop-preserved c = search (passing_with, rules)
