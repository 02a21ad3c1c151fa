-- The table holds the class of each byte.
use Rattle.std.proofs.Common.{refl, arith}
use Rattle.std.specs.Prelude.{nat_lt}
use Rattle.mime.specs.{Bytes.is_token_byte, Inner.ByteClasses.is_ascii_not_token as is_ascii_not, declared.bytes.TheConstants.KINDS}
use Rattle.mime.proofs.BytesLemmas.{in_table}
use Rattle.mime.proofs.bytes.is_separator.Goals as goal

pub returns : goal.returns
unfolding is_token_byte
returns c = in_table is_ascii_not (λ k. nat_lt k 3) KINDS refl refl c.args.b (omega arith)
