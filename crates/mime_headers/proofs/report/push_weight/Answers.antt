-- The media type is weighed, or nothing is added.
use Rattle.mime_headers.proofs.Common.{[], ap, append-nil, medias, offer_rows, refl, sym, true, vec_items, ◌∷◌}
use Rattle.mime_headers.proofs.Good.{stays}
use Rattle.mime_headers.proofs.report.push_weight.Goals as goal

pub returns-in_default : goal.returns-in_default
returns-in_default c = (([], true), rw c.in_default.is refl, sym (append-nil _), stays _)

pub returns-in_default-media : goal.returns-in_default-media
returns-in_default-media c = (([], true), rw (c.in-Some.is, c.in_default-media.is) refl, sym (append-nil _), stays _)

pub returns : goal.returns
returns c =
    let weighed = rw c.from_ref.ensures.value at c.in_ok-ranking.ensures.ranking in
    let rows = rw c.from_ref.ensures.value at c.in_ok-ranking.ensures.rows in
    let media = c.in-Some-media.media.now.media in
    let row = offer_rows c.args.label.now (medias c.in-Some.ranges.now) (media ∷ []) (vec_items c.in_ok-ranking.ranking) in
    let good = rw c.deref.ensures.value at c.is_acceptable.ensures (media ∷ []) in
    ((row, c.is_acceptable.result), rw (c.in-Some.is, c.in-Some-media.is) (_, weighed, ap (λ it. (row, it)) good), rows, refl)
