-- The table holds the class of each byte.
use Rattle.std.proofs.Common.{refl, arith, nat_le}
use Rattle.mime.specs.{Bytes.is_token_byte, declared.bytes.TheConstants.KINDS}
use Rattle.mime.proofs.BytesLemmas.{in_table}
use Rattle.mime.proofs.bytes.is_token.Goals as goal

pub returns : goal.returns
unfolding is_token_byte
returns c = in_table is_token_byte (nat_le 4) KINDS refl refl c.args.b (omega arith)
