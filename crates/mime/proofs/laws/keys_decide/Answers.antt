-- What a key accepts is decided by a test of bytes.
use Rattle.mime.proofs.LawLemmas.Keys.{name_decides}
use Rattle.mime.proofs.laws.keys_decide.Goals as goal

pub returns-clause-name : goal.returns-clause-name
returns-clause-name c = λ key. name_decides _ _
