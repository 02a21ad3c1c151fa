-- A piece that the library rejects is a media type, or bad.
use Rattle.std.proofs.Common.{rules}
use Rattle.mime_http.proofs.{Around.utf8_around, Takes.takes_bad, Takes.takes_range, HttpLaws.error_is_memory}
use Rattle.mime_http.proofs.accept.Reading.take_rejected.Goals as goal

pub returns-in-Ok : goal.returns-in-Ok
returns-in-Ok c = search (takes_range, utf8_around, rules)

pub returns-in_default : goal.returns-in_default
returns-in_default c =
    let why = rw (← c.from_utf8_unchecked-text.ensures) at c.requires.fault in
    let explained = c.in-Err.ensures.explained why in
    search (takes_bad, error_is_memory, rules)
