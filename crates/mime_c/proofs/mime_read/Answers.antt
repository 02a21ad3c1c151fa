-- Each answer is what it says.
use Rattle.std.proofs.Common.{arith}
use Rattle.mime_http.specs.declared.value.FieldError.TheVariants.{Invalid}
use Rattle.mime_c.specs.Answers.{has_room, has_no_room, has_media, fails, are_written}
use Rattle.mime_c.proofs.NoZero.{texts_come_back}
use Rattle.mime_c.proofs.mime_read.Goals as goal

pub returns-then-out-text : goal.returns-then-out-text
returns-then-out-text c = has_no_room (omega (arith, c.if-out-text.true))

pub returns-in-Ok-from_str : goal.returns-in-Ok-from_str
returns-in-Ok-from_str c =
    let (utf8, is) = c.in-Ok.ensures.text in
    let reads = rw is at c.in-Ok-from_str.ensures.read in
    rw (c.put_texts.ensures.bytes, c.put_texts.ensures.found)
    (has_room _ _ (omega (arith, c.if-out-text.false)) (has_media _ _ _ (utf8, reads) (are_written (texts_come_back _ _ reads))))

pub returns-in-Err : goal.returns-in-Err
returns-in-Err c =
    rw (c.put_error.ensures.answer, c.put_error.ensures.found)
    (has_room _ _ (omega (arith, c.if-out-text.false)) (fails _ c.in-Err.ensures.explained.0))

pub returns-in-Err-from_str : goal.returns-in-Err-from_str
returns-in-Err-from_str c =
    let (utf8, is) = c.in-Ok.ensures.text in
    let why = rw (is, ← c.fault.ensures) at c.in-Err-from_str.ensures.explained in
    rw (c.put_error-in-Err-from_str.ensures.answer, c.put_error-in-Err-from_str.ensures.found)
    (has_room _ _ (omega (arith, c.if-out-text.false)) (fails (Invalid _) (utf8, why)))
