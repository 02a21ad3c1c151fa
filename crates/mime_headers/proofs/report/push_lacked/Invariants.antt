-- What is added, and what is left to add, make up what the ranges add.
use Rattle.mime_headers.proofs.Common.{drop, enumerate_from, flat_map, lacks_text, map, option_map, vec_items, ◌++◌, ◌≡◌}
use Rattle.mime_headers.proofs.report.push_lacked.Given as goal

abbrev pub invariant-loop-at : goal.invariant-loop-at
invariant-loop-at l =
    let texts = lacks_text l.offer.media (option_map (λ range. range.now.media) l.by) in
    vec_items l.text ++ flat_map texts (enumerate_from l.at (map (λ range. range.media) (drop l.at l.ranges)))
    ≡ vec_items l.initial.text ++ flat_map texts (enumerate_from 0 (map (λ range. range.media) l.ranges))
