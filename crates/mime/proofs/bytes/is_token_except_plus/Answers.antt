-- The table holds the class of each byte.
use Rattle.std.proofs.Common.{refl, arith}
use Rattle.std.specs.Prelude.{◌==◌}
use Rattle.mime.specs.{Bytes.is_token_byte, Inner.ByteClasses.is_token_except_plus as is_token_except, declared.bytes.TheConstants.KINDS}
use Rattle.mime.proofs.BytesLemmas.{in_table}
use Rattle.mime.proofs.bytes.is_token_except_plus.Goals as goal

pub returns : goal.returns
unfolding is_token_byte
returns c = in_table is_token_except (λ k. k == 5) KINDS refl refl c.args.b (omega arith)
