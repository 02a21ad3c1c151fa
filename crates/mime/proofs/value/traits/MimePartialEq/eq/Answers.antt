-- One text is read as one value, and the test answers as the order does.
use Rattle.std.proofs.Common.{rules, false, true}
use Rattle.mime.proofs.ValueLemmas.Traits.{eq_by_cmp-same}
use Rattle.mime.proofs.value.traits.MimePartialEq.eq.Goals as goal

pub returns-clause-computed : goal.returns-clause-computed
returns-clause-computed c = eq_by_cmp-same c.args.self.now.media c.args.other.now.media c.same_parts.result c.same_parts.ensures

pub returns-then-essence_str-clause-computed : goal.returns-then-essence_str-clause-computed
returns-then-essence_str-clause-computed c =
    eq_by_cmp-same c.args.self.now.media c.args.other.now.media false (search rules)

pub returns-then-param_count-clause-computed : goal.returns-then-param_count-clause-computed
returns-then-param_count-clause-computed c =
    eq_by_cmp-same c.args.self.now.media c.args.other.now.media false (search rules)

pub returns-then-have_same_text-clause-computed : goal.returns-then-have_same_text-clause-computed
returns-then-have_same_text-clause-computed c =
    eq_by_cmp-same c.args.self.now.media c.args.other.now.media true (search rules)

pub returns-then-param_count-eq0-clause-computed : goal.returns-then-param_count-eq0-clause-computed
returns-then-param_count-eq0-clause-computed c =
    eq_by_cmp-same c.args.self.now.media c.args.other.now.media false (search rules)
