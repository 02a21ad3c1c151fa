-- Each answer is what it says.
use Rattle.std.proofs.Common.{rules, arith}
use Rattle.mime_http.proofs.HandedOut.{unescaped_is}
use Rattle.mime_c.specs.{Answers.has_room, Answers.has_no_room, Answers.succeeds}
use Rattle.mime_c.proofs.parameter.mime_unescape.Goals as goal

pub returns-then-out-value : goal.returns-then-out-value
returns-then-out-value c = has_no_room (omega (arith, c.if-out-value.true))

pub returns : goal.returns
returns c = search (unescaped_is, has_room, succeeds, rules)
