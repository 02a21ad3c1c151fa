-- The essences decide, or the pairs, and what the answer says.
use Rattle.std.proofs.Common.{rules, sym}
use Rattle.mime.proofs.{ValueLemmas.Traits.equal-media, ValueLemmas.Traits.tells_answer}
use Rattle.mime.proofs.value.traits.MimeOrd.cmp.Goals as goal

pub returns-in-Some-clause-order : goal.returns-in-Some-clause-order
returns-in-Some-clause-order c = tells_answer c.args.self.now.media c.args.other.now.media c.in-Some.order (search rules)

pub returns-then-have_same_owned_text-clause-computed : goal.returns-then-have_same_owned_text-clause-computed
returns-then-have_same_owned_text-clause-computed c =
    sym (equal-media c.args.self.now.media c.args.other.now.media (c.have_same_owned_text.ensures c.if-have_same_owned_text.true))

pub returns-then-is_ne-clause-order : goal.returns-then-is_ne-clause-order
returns-then-is_ne-clause-order c = tells_answer c.args.self.now.media c.args.other.now.media c.cmp-order.result (search rules)

pub returns-then-param_count-eq0-clause-order : goal.returns-then-param_count-eq0-clause-order
returns-then-param_count-eq0-clause-order c =
    tells_answer c.args.self.now.media c.args.other.now.media c.cmp.result (search rules)

pub returns-clause-order : goal.returns-clause-order
returns-clause-order c = tells_answer c.args.self.now.media c.args.other.now.media c.order_pairs.result (search rules)
