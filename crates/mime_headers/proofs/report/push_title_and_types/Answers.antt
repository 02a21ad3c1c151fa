-- Each part is added after the one before it.
use Rattle.mime_headers.proofs.Common.{append_assoc, arith, length, length-map, map, option_map, rules, vec_items, vec_len, ◌≡◌}
use Rattle.mime_headers.proofs.report.push_title_and_types.Goals as goal

pub returns : goal.returns
returns c =
    let made = c.in_ok-types.types in
    let types = rw c.deref.ensures.value at c.in_ok-types.ensures in
    let len : vec_len made ≡ length (map vec_items (vec_items made)) = omega (arith, length-map (vec_items made) vec_items) in
    let folds = rw (c.in_ok-push_title.ensures, c.deref-2.ensures.value, types) at c.in_ok-last.ensures in
    let only = rw (c.len.ensures, len, types) at c.only_of-only.ensures in
    let counted = rw (c.expects_type.ensures, c.title.ensures, c.deref-3.ensures.value, types) at c.in_ok-push_count.ensures in
    let asked : option_map (λ mime. mime.now.media) c.as_ref.result ≡ option_map (λ mime. mime.media) c.only_of-only.result =
    search rules in
    let answer = rw asked at c.in_ok-push_answer.ensures in
    (_, answer.0, folds, only, answer.1, simp (answer.2, counted, append_assoc))
