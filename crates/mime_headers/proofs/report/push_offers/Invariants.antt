-- The rows so far are added.
use Rattle.mime_headers.proofs.Common.{medias, offer_rows, take, vec_items, ◌++◌, ◌≡◌}
use Rattle.mime_headers.proofs.report.push_offers.Given as goal

abbrev pub invariant-loop-one : goal.invariant-loop-one
invariant-loop-one l =
    vec_items l.text ≡ vec_items l.fn.text ++ offer_rows l.label (medias l.ranges) (medias l.offers) (take l.one-index l.one-items)
