-- Each answer is what it says.
use Rattle.std.proofs.Common.{arith}
use Rattle.mime_http.proofs.HandedOut.{stands}
use Rattle.mime_c.specs.Answers.{has_room, has_no_room, has_media, fails, are_written}
use Rattle.mime_c.proofs.{HeaderRoom.value_fits, NoZero.texts_come_back}
use Rattle.mime_c.proofs.mime_content_type.Goals as goal

pub returns-then-out-value : goal.returns-then-out-value
returns-then-out-value c = has_no_room (omega (arith, c.if-out-value.true))

pub returns-in-Err : goal.returns-in-Err
returns-in-Err c =
    rw (c.put_error.ensures.answer, c.put_error.ensures.found)
    (has_room _ _ (omega (arith, c.if-out-value.false)) (fails _ c.in-Err.ensures.explained.1))

pub put_texts-requires-clause-room : goal.put_texts-requires-clause-room
put_texts-requires-clause-room c =
    let (http, kept) = stands c.args.value.now _ (rw (c.trimmed_text.ensures, c.in-Ok.ensures.text.1) at c.in-Ok-from_str.ensures.read) in
    omega (arith, value_fits c.args.value.now _ http kept, c.if-out-value.false)

pub returns-in-Ok-from_str : goal.returns-in-Ok-from_str
returns-in-Ok-from_str c =
    let (utf8, is) = c.in-Ok.ensures.text in
    let reads = rw (c.trimmed_text.ensures, is) at c.in-Ok-from_str.ensures.read in
    let (http, kept) = stands c.args.value.now _ reads in
    rw (c.put_texts.ensures.bytes, c.put_texts.ensures.found)
    (has_room _ _ (omega (arith, c.if-out-value.false)) (has_media _ _ _ (utf8, http, kept)
    (are_written (texts_come_back _ _ reads))))

pub put_after-requires-clause-fault : goal.put_after-requires-clause-fault
put_after-requires-clause-fault c = rw (c.trimmed_text.ensures, ← c.fault.ensures) at c.in-Err-from_str.ensures.explained

pub put_after-requires-clause-room : goal.put_after-requires-clause-room
put_after-requires-clause-room c = rw c.in-Ok.ensures.text.1 (omega (arith, c.if-out-value.false))

pub returns-in-Err-from_str : goal.returns-in-Err-from_str
returns-in-Err-from_str c = has_room _ _ (omega (arith, c.if-out-value.false)) (rw c.in-Ok.ensures.text.1 at c.put_after.ensures)
