-- The run of token bytes and what three searches find after it decide the form.
use Rattle.mime_http.proofs.Common.{arith, nat_tests, refl, rules}
use Rattle.mime_http.proofs.Contents.{form_found}
use Rattle.mime_http.proofs.parameter.form_of.Goals as goal

pub returns-then-plain-gt0 : goal.returns-then-plain-gt0
returns-then-plain-gt0 c =
    let same = c.as_bytes-bytes.ensures.value in
    let found = form_found same (λ i. search (c.type_inv.value i, rules)) c.token_end_far-plain.ensures.end refl refl refl in
    grind (arith, nat_tests, found, same, c.if-plain-bytes.true, c.if-plain-gt0.true)

pub returns-then-text-bytes : goal.returns-then-text-bytes
returns-then-text-bytes c =
    let same = c.as_bytes-bytes.ensures.value in
    let text = c.first_stop-text.ensures.end in
    let found = form_found same (λ i. search (c.type_inv.value i, rules)) c.token_end_far-plain.ensures.end text refl refl in
    grind (arith, nat_tests, found, same, c.else-plain-bytes.either, c.if-text-bytes.true)

pub returns-then-first_stop-bytes : goal.returns-then-first_stop-bytes
returns-then-first_stop-bytes c =
    let same = c.as_bytes-bytes.ensures.value in
    let plain = c.token_end_far-plain.ensures.end in
    let text = c.first_stop-text.ensures.end in
    let found = form_found same (λ i. search (c.type_inv.value i, rules)) plain text c.first_stop.ensures.end refl in
    grind (arith, nat_tests, found, same, c.else-plain-bytes.either, c.if-text-bytes.false, c.if-first_stop-bytes.true)

pub returns-then-special_from-bytes : goal.returns-then-special_from-bytes
returns-then-special_from-bytes c =
    let same = c.as_bytes-bytes.ensures.value in
    let plain = c.token_end_far-plain.ensures.end in
    let text = c.first_stop-text.ensures.end in
    let stop = c.first_stop.ensures in
    let found = form_found same (λ i. search (c.type_inv.value i, rules)) plain text stop.end c.special_from.ensures.special in
    let either = c.else-plain-bytes.either in
    grind (arith, nat_tests, found, same, either, stop, c.if-text-bytes.false, c.if-first_stop-bytes.false, c.if-special_from-bytes.true)

pub returns-else-special_from-bytes : goal.returns-else-special_from-bytes
returns-else-special_from-bytes c =
    let same = c.as_bytes-bytes.ensures.value in
    let plain = c.token_end_far-plain.ensures.end in
    let text = c.first_stop-text.ensures.end in
    let stop = c.first_stop.ensures in
    let mark = c.special_from.ensures in
    let found = form_found same (λ i. search (c.type_inv.value i, rules)) plain text stop.end mark.special in
    let either = c.else-plain-bytes.either in
    let none = c.if-first_stop-bytes.false in
    grind (arith, nat_tests, found, same, either, stop, mark, c.if-text-bytes.false, none, c.if-special_from-bytes.false)
