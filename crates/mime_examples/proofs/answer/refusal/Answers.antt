-- What is read of JSON is JSON.
use Rattle.std.proofs.Common.{rules, ◌≡◌, ◌∙◌, sym, codes}
use Rattle.mime_examples.proofs.answer.refusal.Goals as goal

pub returns-in-Ok-clause-json : goal.returns-in-Ok-clause-json
returns-in-Ok-clause-json c = λ utf8 media reads is.
    let same = c.one_http_reading.ensures _ media _ reads c.in-Ok.ensures.http.1 in
    let json : c.essence_str.result.now ≡ codes "application/json" = c.essence_str.ensures ∙ (sym same.0 ∙ is) in
    search rules
