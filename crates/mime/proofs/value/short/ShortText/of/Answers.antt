-- The bytes copied begin with the text.
use Rattle.std.proofs.Common.{take, drop, ap, sym, ◌∙◌, subst}
use Rattle.std.specs.Str.{IsUtf8}
use Rattle.std.proofs.lemmas.List.{take-take}
use Rattle.mime.proofs.ValueLemmas.Zeros.{zeros-within}
use Rattle.mime.proofs.value.short.ShortText.of.Goals as goal

pub returns : goal.returns
returns c = ap (take c.args.len) c.copy_from_slice.ensures.after ∙ take-take c.args.len 40 c.args.block.now c.requires.short

pub invariant_of-result : goal.invariant_of-result
invariant_of-result c =
    let is = ap (take c.args.len) c.copy_from_slice.ensures.after ∙ take-take c.args.len 40 c.args.block.now c.requires.short in (
      c.requires.short,
      subst IsUtf8 (sym is) c.requires.utf8,
      ap (drop c.args.len) c.copy_from_slice.ensures.after
          ∙ zeros-within c.args.block.now c.args.len 40 8 c.requires.short c.requires.zeros,
    )
