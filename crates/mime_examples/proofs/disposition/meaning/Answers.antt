-- The value that was found means the name.
use Rattle.std.proofs.Common.{◌∙◌, Some, ap, append-nil, sym}
use Rattle.mime_examples.specs.Disposition.{unescaped_name}
use Rattle.mime_examples.proofs.disposition.meaning.Goals as goal

pub returns : goal.returns
returns c =
    let means =
    rw (c.in_default-split_first.ensures.meant, append-nil) at c.loop-byte.invariant
    ∙ ap unescaped_name (c.as_bytes-left.ensures.value ∙ c.as_str.ensures) in
    (Some (c.in-Some.value.text.now, c.in-Some.value.ignores_case), c.in-Some.ensures.found, ap Some (sym means))
