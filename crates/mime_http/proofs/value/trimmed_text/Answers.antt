-- White space at the ends leaves UTF-8.
use Rattle.mime_http.proofs.Common.{IsUtf8, rules, subst, sym, trimmed, ◌≡◌}
use Rattle.mime_http.proofs.Around.{utf8_trimmed}
use Rattle.mime_http.proofs.value.trimmed_text.Goals as goal

pub from_utf8_unchecked-requires : goal.from_utf8_unchecked-requires
from_utf8_unchecked-requires c =
    let left : c.trimmed-left.result.now ≡ trimmed c.args.value.now = search rules in
    subst IsUtf8 (sym left) (utf8_trimmed c.args.value.now c.utf8.value)
