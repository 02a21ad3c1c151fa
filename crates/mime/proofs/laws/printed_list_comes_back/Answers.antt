use Rattle.mime.proofs.IterLemmas.{printed_list_comes_back}
use Rattle.mime.proofs.laws.printed_list_comes_back.Goals as goal

pub returns : goal.returns
returns c = printed_list_comes_back
