-- String after string is written.
use Rattle.std.proofs.Common.{rules, arith, length-append}
use Rattle.std.proofs.lemmas.Grind.{common_steps}
use Rattle.mime_c.proofs.Writing.{both_written, writes-end, strings_of_range}
use Rattle.mime_c.proofs.put_range.Goals as goal

pub put-requires : goal.put-requires
put-requires c = search (strings_of_range, length-append, writes-end, rules)

pub returns : goal.returns
returns c = grind (arith, common_steps, both_written, strings_of_range)
