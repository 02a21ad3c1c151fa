-- Each parameter is of the name, or is written.
use Rattle.mime_http.proofs.Common.{NameIs, item_seen, rules, string_bytes, text_in, ◌++◌, ◌∷◌, ◌≡◌}
use Rattle.mime_http.proofs.{Contents.last_written, Contents.text_in-kept, Written.all_left, Written.copied, Written.others_within}
use Rattle.mime_http.proofs.parameter.text_with.Goals as goal

pub loop-other-init : goal.loop-other-init
loop-other-init c = all_left _ _ _ (search rules) (search rules)

pub loop-other-preserved : goal.loop-other-preserved
loop-other-preserved c =
    let name = c.in-Some.other.text.now in
    let kept = c.in-Some.kept.text.now in
    let first : c.loop-other.other-iterator ≡ item_seen (c.in-Some.other, c.in-Some.kept) ∷ c.next.new.self = search rules in
    let differ : ¬ (NameIs name c.in-Some.other.ignores_case c.args.name.now) = search rules in
    let pushed : string_bytes c.push_parameter.new.text
    ≡ string_bytes c.loop-other.text ++ text_in c.form_of_content.result name kept = search rules in
    rw (pushed, c.form_of_content.ensures, text_in-kept name kept) (copied c.loop-other.invariant first differ)

pub overflow_add-count : goal.overflow_add-count
overflow_add-count c = search (others_within, copied, rules)

pub returns-clause-text : goal.returns-clause-text
returns-clause-text c = search (last_written, rules)
