use Rattle.mime_http.proofs.Strangers.{stranger_changes_nothing}
use Rattle.mime_http.proofs.laws.stranger_changes_nothing.Goals as goal

pub returns : goal.returns
returns c = stranger_changes_nothing
