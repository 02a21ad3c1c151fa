-- Each answer is what it says.
use Rattle.std.proofs.Common.{◌≡◌, Bool, true, false, refl}
use Rattle.std.specs.Prelude.{if◌then◌else◌}
use mir.Val.{bool_byte}
use Rattle.mime_c.specs.Answers.{has_media, fails, are_compared}
use Rattle.mime_c.proofs.mime_equal.Goals as goal

-- The byte of a Boolean is 1 or 0.
byte_of : (is : Bool) → bool_byte is ≡ (if is then 1 else 0)
byte_of true = refl
byte_of false = refl

pub returns-in-Err : goal.returns-in-Err
returns-in-Err c = rw c.number_of_error.ensures (fails _ c.in-Err.ensures.explained)

pub returns-in-Err-read : goal.returns-in-Err-read
returns-in-Err-read c =
    rw c.number_of_error-in-Err-read.ensures (has_media _ _ _ c.in-Ok.ensures.read (fails _ c.in-Err-read.ensures.explained))

pub returns : goal.returns
returns c =
    rw (c.from.ensures, byte_of c.eq.result)
    (has_media _ _ _ c.in-Ok.ensures.read (has_media _ _ _ c.in-Ok-read.ensures.read (are_compared c.eq.result c.eq.ensures.same)))
