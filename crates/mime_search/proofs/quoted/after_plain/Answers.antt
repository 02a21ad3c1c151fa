-- A few bytes without a quote or a backslash are passed, and what the search passes after them.
use Rattle.std.proofs.Common.{ℕ, ◌+◌, ◌∙◌, ap, map, take, drop, false}
use Rattle.std.specs.Simd.Lanes.{mask_l}
use Rattle.mime_search.specs.Quoted.{len_from}
use Rattle.mime_search.proofs.Quotes.{search_past_run, no_mark}
use Rattle.mime_search.proofs.quoted.after_plain.Goals.{then-text-ge-BLOCK+else-stops-ne0, else-text-ge-BLOCK}
use Rattle.mime_search.proofs.quoted.after_plain.Goals as goal

pub returns-clause-left : goal.returns-clause-left
returns-clause-left c =
    let text = c.args.text.now in
    let left = λ (n : ℕ). n + len_from false (drop n text) in
    search_past_run _ c.of-class.ensures text c.if-text-ge-BLOCK.at c.first_stop.result c.first_stop.ensures.end
    ∙ elim c.if-text-ge-BLOCK.branch [
      | then-text-ge-BLOCK+else-stops-ne0 w ↦
          ap left w.at-is ∙ no_mark text c.args.from _ _ w.stops_from-size.ensures.within w.stops_from-size.ensures.few
          (w.stops_from-size.ensures.mask
          ∙ (λ i. mask_l (map (λ b. c.of-class.ensures b i) (take w.stops_from-size.result.0 (drop c.args.from text)))))
          w.if-stops-ne0.false
      | else-text-ge-BLOCK w ↦ ap left w.at-is
    ]
