-- An error is what it says.
use Rattle.mime_c.proofs.read.Goals as goal

pub returns-in-Err-from_str-clause-explained : goal.returns-in-Err-from_str-clause-explained
returns-in-Err-from_str-clause-explained c =
    let (utf8, is) = c.in-Ok.ensures.text in (utf8, rw (is, ← c.fault.ensures) at c.in-Err-from_str.ensures.explained)
