-- A range of one byte has that byte.
use Rattle.mime_search.proofs.Lanes.{of_two}
use Rattle.mime_search.proofs.class.Class.of.Goals as goal

pub returns : goal.returns
returns c = λ b. of_two c.args.one c.args.other b
