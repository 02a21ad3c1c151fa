-- The count is that of the pairs.
use Rattle.std.proofs.Common.{ap, ◌∙◌, length}
use Rattle.mime.proofs.ValueLemmas.Parts.{kept-count}
use Rattle.mime.proofs.value.Mime.param_count.Goals as goal

pub returns : goal.returns
returns c = kept-count _ _ c.self.invariant.kept ∙ ap (λ kept. length kept.media.pairs) c.self.view_is
