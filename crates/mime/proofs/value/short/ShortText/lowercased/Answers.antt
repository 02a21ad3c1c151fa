-- Lowercasing keeps UTF-8.
use Rattle.std.proofs.Common.{ap, sym, ◌≡◌, ◌∙◌, subst, length, take, rules}
use Rattle.std.specs.{Str.IsUtf8}
use Rattle.mime.specs.Values.{lowered}
use Rattle.mime_search.proofs.IgnoringCase.{lowered-take}
use Rattle.mime.proofs.{ValueLemmas.Utf8.IsUtf8-in_part, ValueLemmas.Utf8.lowercase, ValueLemmas.Zeros.zeros-lowercase}
use Rattle.std.proofs.lemmas.List.{drop-map}
use Rattle.mime.proofs.value.short.ShortText.lowercased.Goals as goal

pub of-requires-clause-utf8 : goal.of-requires-clause-utf8
of-requires-clause-utf8 c =
    let text = c.args.text.now in
    let is : take (length text) c.lowercase_block.new.block ≡ lowered text
    = ap (take (length text)) c.lowercase_block.ensures ∙ sym (lowered-take (length text) _)
    ∙ ap lowered c.padded-bytes.ensures.text in
    subst IsUtf8 (sym is) (IsUtf8-in_part text _ (lowercase text) c.utf8.text)

pub returns : goal.returns
returns c = search (lowered-take, rules)

pub of-requires-clause-zeros : goal.of-requires-clause-zeros
of-requires-clause-zeros c = search (zeros-lowercase, drop-map, rules)
