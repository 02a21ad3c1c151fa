-- A value that is written anew is written as it is printed, and an error is what it says.
use Rattle.std.proofs.Common.{arith}
use Rattle.mime_http.proofs.HandedOut.{printed_is_read}
use Rattle.mime_c.specs.Answers.{has_media, fails, are_written}
use Rattle.mime_c.proofs.{HeaderRoom.value_fits, NoZero.texts_come_back}
use Rattle.mime_c.proofs.put_after.Goals as goal

pub put_texts-requires-clause-read : goal.put_texts-requires-clause-read
put_texts-requires-clause-read c =
    let (http, kept) = c.in-Ok.ensures.http c.requires.fault in (_, (printed_is_read _ _ http kept).0)

pub put_texts-requires-clause-room : goal.put_texts-requires-clause-room
put_texts-requires-clause-room c =
    let (http, kept) = c.in-Ok.ensures.http c.requires.fault in
    omega (arith, value_fits c.args.value.now _ http kept, c.requires.room)

pub returns-in-Ok : goal.returns-in-Ok
returns-in-Ok c =
    let (http, kept) = c.in-Ok.ensures.http c.requires.fault in
    rw (c.put_texts.ensures.bytes, c.put_texts.ensures.found)
    (has_media _ _ _ (c.utf8.value, http, kept)
    (are_written (texts_come_back _ _ (printed_is_read _ _ http kept).0)))

pub returns-in-Err : goal.returns-in-Err
returns-in-Err c =
    rw (c.put_error.ensures.answer, c.put_error.ensures.found) (fails _ (c.in-Err.ensures.explained c.requires.fault))
