-- The list begins after the semicolon, and its pairs are low.
use Rattle.std.proofs.Common.{◌≡◌, subst, rules}
use Rattle.mime.specs.{Values.OwnedMedia, Inner.KeptText.AreLowPairs}
use Rattle.mime.proofs.{ValueLemmas.KeptText.reads-from_kept, ValueLemmas.Parts.read-low_pairs}
use Rattle.mime.proofs.value.Mime.pairs.Goals as goal

pub returns-clause-low : goal.returns-clause-low
returns-clause-low c =
    let pairs : c.of_text.result ≡ c.args.self.now.media.pairs = search rules in
    rw pairs (subst (λ (kept : OwnedMedia). AreLowPairs kept.media.pairs) c.self.view_is
    (read-low_pairs _ _ (reads-from_kept _ _ c.self.invariant.kept)))
