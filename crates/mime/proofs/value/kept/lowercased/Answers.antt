-- Lowercasing keeps UTF-8.
use Rattle.std.proofs.Common.{◌∙◌, drop, length, subst, sym}
use Rattle.std.specs.Str.{IsUtf8}
use Rattle.std.proofs.lemmas.List.{take_at}
use Rattle.mime.proofs.{ValueLemmas.Utf8.IsUtf8-in_part, ValueLemmas.KeptText.kept-in_part}
use Rattle.mime.proofs.value.kept.lowercased.Goals as goal

pub from_utf8_unchecked-requires : goal.from_utf8_unchecked-requires
from_utf8_unchecked-requires c =
    let bytes = c.lowercase_text.new.bytes in
    let size = c.lowercase_text.auto.bytes ∙ c.deref_mut.ensures.len in
    let all = take_at bytes (drop (length bytes) c.in_ok-bytes.bytes.items) c.in_ok-bytes.bytes.len size in
    let parts = kept-in_part c.args.count c.args.semicolon c.args.text.now in
    subst IsUtf8 (sym (all ∙ c.lowercase_text.ensures)) (IsUtf8-in_part c.args.text.now _ parts c.utf8.text)
