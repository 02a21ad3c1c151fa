-- Nothing is left to add at the end.
use Rattle.mime_headers.proofs.Common.{append-nil, flat_map-map, ◌≡◌}
use Rattle.mime.specs.Items.{items_of}
use Rattle.mime_headers.proofs.report.push_params.Goals as goal

pub returns : goal.returns
returns c =
    let items : c.into_iter-name-iterator.result ≡ items_of c.args.mime.now.media.pairs = cc in
    simp (c.in-None.ensures.steps.0, items, flat_map-map, append-nil) at c.loop-name.invariant
