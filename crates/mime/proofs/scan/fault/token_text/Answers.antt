-- The pieces that are written make the whole text.
use Rattle.std.proofs.Common.{codes, rules}
use Rattle.mime.proofs.WriteLemmas.{appended}
use Rattle.mime.proofs.scan.fault.token_text.Goals as goal

pub returns : goal.returns
returns c = search (codes, appended, rules)
