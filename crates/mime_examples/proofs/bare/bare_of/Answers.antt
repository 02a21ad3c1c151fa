-- The essence is read, as the media type without its parameters.
use Rattle.std.proofs.Common.{rules, ◌≡◌, sym, subst, ℕ, List}
use Rattle.mime.specs.{Values.MediaType, Values.Reads, Values.IsAccepted, Laws.EssenceIsRead, Laws.without_parameters}
use Rattle.mime_examples.proofs.bare.bare_of.Goals as goal

-- The essence is read as the value without its parameters.
bare_is_read : {kept essence : List ℕ} {value : MediaType} → EssenceIsRead → Reads kept value → essence ≡ value.essence
    → Reads essence (without_parameters value)
bare_is_read {value = value} law read same = subst (λ text. Reads text (without_parameters value)) (sym same) (law _ _ read)

pub returns-in_err-bare-clause-memory : goal.returns-in_err-bare-clause-memory
returns-in_err-bare-clause-memory c =
    let accepted : IsAccepted c.essence_str.result.now =
    (_, bare_is_read c.essence_is_read.ensures c.as_str-kept.ensures.reads c.essence_str.ensures) in
    search rules

pub returns-clause-value : goal.returns-clause-value
returns-clause-value c =
    c.one_reading.ensures _ _ _ (search rules) (bare_is_read c.essence_is_read.ensures c.as_str-kept.ensures.reads c.essence_str.ensures)
