-- What is written anew of a value is read as its media type, and what a value lacks is its fault.
use Rattle.mime_http.proofs.Common.{Explains, IsUtf8, Reads, arith, media_of_parts, rules, subst, sym, ◌∙◌}
use Rattle.mime_http.proofs.HttpLaws.{anew_is, anew_needs, reading_needs, written_is_utf8, written_reads}
use Rattle.mime_http.proofs.ReadFaults.{answered_fault}
use Rattle.mime_http.proofs.value.+read_into.Goals as goal

pub returns-in-Err-clause-explained : goal.returns-in-Err-clause-explained
returns-in-Err-clause-explained t c = λ isnt. search (answered_fault, rules)

pub from_utf8_unchecked-text-requires : goal.from_utf8_unchecked-text-requires
from_utf8_unchecked-text-requires t c = search (written_is_utf8, rules)

pub returns-in_default-clause-explained : goal.returns-in_default-clause-explained
returns-in_default-clause-explained t c = λ isnt. search (anew_needs, rules)

pub returns-in-Err-from_str-clause-explained : goal.returns-in-Err-from_str-clause-explained
returns-in-Err-from_str-clause-explained t c = λ isnt.
    let utf8 : IsUtf8 c.args.value.now = search rules in
    let (parts, answered, holds) = c.in-Ok.ensures.answer in
    let text = c.from_utf8_unchecked-text.ensures ∙ holds.held (omega (arith, c.write_anew.ensures.room, c.if-len-room.false)) in
    let reads = subst (λ bytes. Reads bytes (media_of_parts parts)) (sym text) (written_reads c.as_bytes.result.now parts answered) in
    let why = subst (Explains c.from_utf8_unchecked-text.result.now) (c.in-Err-from_str.ensures.accepted (media_of_parts parts, reads))
    c.in-Err-from_str.ensures.explained in
    (utf8, reading_needs parts isnt (rw c.as_bytes.ensures.value at answered) text why)

pub returns-in-Ok-from_str-clause-http : goal.returns-in-Ok-from_str-clause-http
returns-in-Ok-from_str-clause-http t c = λ isnt.
    let (parts, answered, holds) = c.in-Ok.ensures.answer in
    let text = c.from_utf8_unchecked-text.ensures ∙ holds.held (omega (arith, c.write_anew.ensures.room, c.if-len-room.false)) in
    anew_is parts isnt (rw c.as_bytes.ensures.value at answered) text _ c.in-Ok-from_str.ensures.read
