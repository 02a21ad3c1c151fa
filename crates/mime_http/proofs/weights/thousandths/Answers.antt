-- What is read digit by digit is the number that the text begins with.
use Rattle.mime_http.proofs.Common.{arith, common_steps}
use Rattle.mime_http.proofs.Numbers.{read_is}
use Rattle.mime_http.proofs.weights.thousandths.Goals as goal

pub returns-in-49-to-57 : goal.returns-in-49-to-57
returns-in-49-to-57 c = grind (arith, common_steps, read_is c.args.weight.now)

pub returns-in_default-byte : goal.returns-in_default-byte
returns-in_default-byte c = grind (arith, common_steps, read_is c.args.weight.now)

pub returns-in_default-byte-2 : goal.returns-in_default-byte-2
returns-in_default-byte-2 c = grind (arith, common_steps, read_is c.args.weight.now)
