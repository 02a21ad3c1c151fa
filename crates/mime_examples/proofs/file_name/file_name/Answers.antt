-- The value that was found means the name.
use Rattle.std.proofs.Common.{◌∙◌, ◌++◌, ap}
use Rattle.mime_http.specs.Unescaped.{unescaped}
use Rattle.mime_examples.proofs.file_name.file_name.Goals as goal

pub returns : goal.returns
returns c =
    let means = ap (λ items. items ++ unescaped c.as_str.result.now) c.new-name.ensures.items ∙ ap unescaped c.as_str.ensures in
    (c.in-Some.value.text.now, c.in-Some.value.ignores_case, c.in-Some.ensures.found, c.in_ok-unescape.ensures.meant ∙ means)
