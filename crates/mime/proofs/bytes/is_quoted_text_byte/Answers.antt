-- The table holds the class of each byte.
use Rattle.std.proofs.Common.{refl, arith, nat_le}
use Rattle.mime.specs.{Bytes.is_quoted_byte, Bytes.is_quoted_text_byte as is_quoted_text, declared.bytes.TheConstants.KINDS}
use Rattle.mime.proofs.BytesLemmas.{in_table}
use Rattle.mime.proofs.bytes.is_quoted_text_byte.Goals as goal

pub returns : goal.returns
unfolding is_quoted_byte
returns c = in_table is_quoted_text (nat_le 2) KINDS refl refl c.args.b (omega arith)
