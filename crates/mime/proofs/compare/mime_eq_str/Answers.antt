-- Without parameters only case may differ; the kept text equals the value, and no text with a semicolon after the essence does.
use Rattle.std.proofs.Common.{◌≢◌, ◌∙◌, [], length, true≢false, sym, ap}
use Rattle.std.proofs.lemmas.List.{nil_from_length}
use Rattle.mime.proofs.CompareLemmas.Parts.{text_is-kept_case, text_is-by_parts}
use Rattle.mime.proofs.compare.mime_eq_str.Goals as goal

pub returns-then-param_count-eq0 : goal.returns-then-param_count-eq0
returns-then-param_count-eq0 c =
    let value = c.args.mime.now.media in
    let none = nil_from_length value.pairs (sym c.param_count.ensures ∙ c.if-param_count-eq0.true) in
    let told = text_is-kept_case _ c.args.s.now value c.as_str-kept.ensures.reads c.as_str-kept.ensures.text none in
    (λ is. told.1 (c.eq_str_ignore_ascii_case.ensures.0 is), λ is. c.eq_str_ignore_ascii_case.ensures.1 (told.0 is))

pub returns-then-not-has_semicolon_at : goal.returns-then-not-has_semicolon_at
returns-then-not-has_semicolon_at c =
    let value = c.args.mime.now.media in
    let some : value.pairs ≢ [] = λ none. c.if-param_count-eq0.false (c.param_count.ensures ∙ ap length none) in
    let parts = text_is-by_parts _ c.args.s.now value c.as_str-kept.ensures.reads some in
    let told = rw c.essence_str.ensures at c.has_semicolon_at.ensures in (
      λ bad. absurd (true≢false (sym bad)),
      λ is. absurd (true≢false (sym (told.1 (parts.0 is).list.0) ∙ c.if-not-has_semicolon_at.true)),
    )
