-- What is added is what the value means.
use Rattle.mime_http.proofs.Common.{arith, rules, length, length-append, vec_items, ◌++◌, ◌+◌, ◌∙◌, ◌≡◌, ◌≤◌, ap, sym}
use Rattle.mime_http.proofs.Contents.{cut_behind, unescaped_is}
use Rattle.mime_http.proofs.quoted.unescape.Goals as goal

pub returns-clause-meant : goal.returns-clause-meant
returns-clause-meant c =
    let front = vec_items c.args.buffer.now in
    let value = c.args.value.now in
    let bytes : c.deref_mut.result.now ≡ front ++ value = search rules in
    let start : c.len-start.result ≡ length front = search rules in
    let long : c.extend_from_slice.new.self.len ≡ length c.deref_mut.result.now = search rules in
    let meant = c.copy_meant-len.ensures in
    let size = length-append front value in
    let within : c.len-start.result + c.copy_meant-len.result ≤ c.extend_from_slice.new.self.len =
    omega (arith, start, long, ap length bytes, meant.within, ap length c.as_bytes-2.ensures.value, size) in
    c.truncate.ensures.items ∙ (cut_behind front value _ _ _ _ bytes start meant.bytes meant.size within ∙ ap (λ it. front ++ it)
    (rw c.as_bytes-2.ensures.value (sym (unescaped_is value))))
