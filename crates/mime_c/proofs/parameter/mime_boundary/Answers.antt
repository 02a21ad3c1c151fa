-- Each answer is what it says.
use Rattle.std.proofs.Common.{rules, arith, sym, subst}
use Rattle.std.specs.Vec.{vec_items}
use Rattle.mime_http.specs.Boundary.{IsBoundaryOf}
use Rattle.mime_c.specs.Answers.{has_room, has_no_room, has_media, fails}
use Rattle.mime_c.specs.ParameterAnswers.{boundary_is, has_no_boundary, boundary_has_no_memory}
use Rattle.mime_c.proofs.ParameterRoom.{boundary_comes_back}
use Rattle.mime_c.proofs.parameter.mime_boundary.Goals as goal

pub returns-then-out-lt-BOUNDARY_ROOM : goal.returns-then-out-lt-BOUNDARY_ROOM
returns-then-out-lt-BOUNDARY_ROOM c = has_no_room (omega (arith, c.if-out-lt-BOUNDARY_ROOM.true))

pub returns-in-Err : goal.returns-in-Err
returns-in-Err c = rw c.number_of_error.ensures (has_room _ _ (omega (arith, c.if-out-lt-BOUNDARY_ROOM.false))
    (fails _ c.in-Err.ensures.explained))

pub returns-in-Ok-Some : goal.returns-in-Ok-Some
returns-in-Ok-Some c =
    let http = c.in-Ok.ensures.http in
    let is : IsBoundaryOf c.in-Ok.mime.media (vec_items c.in-Ok-Some.found) = search rules in
    let found = subst (IsBoundaryOf c.in-Ok.mime.media) (sym c.deref.ensures.value) is in
    rw (c.put_string.ensures.bytes, c.put_string.ensures.size) (has_room _ _ (omega (arith, c.if-out-lt-BOUNDARY_ROOM.false))
    (has_media _ _ _ (http.0, http.1, c.in-Ok.ensures.kept) (boundary_is _ found (boundary_comes_back _ found.is))))

pub returns-in-Ok-None : goal.returns-in-Ok-None
returns-in-Ok-None c =
    let http = c.in-Ok.ensures.http in
    has_room _ _ (omega (arith, c.if-out-lt-BOUNDARY_ROOM.false))
    (has_media _ _ _ (http.0, http.1, c.in-Ok.ensures.kept) (has_no_boundary (search rules)))

pub returns : goal.returns
returns c =
    let http = c.in-Ok.ensures.http in
    has_room _ _ (omega (arith, c.if-out-lt-BOUNDARY_ROOM.false))
    (has_media _ _ _ (http.0, http.1, c.in-Ok.ensures.kept) boundary_has_no_memory)
