-- ASCII is UTF-8.
use Rattle.std.proofs.lemmas.Str.{IsUtf8-from_ascii}
use Rattle.mime_search.proofs.text.text_of.Goals as goal
use Rattle.mime_search.proofs.text.text_of.Goals.{then-not-is_ascii+else-valid-bytes, else-not-is_ascii}

pub from_utf8_unchecked-requires : goal.from_utf8_unchecked-requires
from_utf8_unchecked-requires c =
    elim c.if-not-is_ascii.branch [
      | then-not-is_ascii+else-valid-bytes w ↦ w.valid_up_to-valid.ensures.valid w.if-valid-bytes.false
      | else-not-is_ascii w ↦ IsUtf8-from_ascii c.args.bytes.now (c.is_ascii.ensures w.if-not-is_ascii.false)
    ]
