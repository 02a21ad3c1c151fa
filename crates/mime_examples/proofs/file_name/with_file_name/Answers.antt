-- The parameter's name is a token.
use Rattle.std.proofs.Common.{rules}
use Rattle.mime.specs.{Bytes.is_token_byte}
use Rattle.mime_examples.proofs.file_name.with_file_name.Goals as goal

pub returns-clause-exact : goal.returns-clause-exact
unfolding is_token_byte
returns-clause-exact c = search rules
