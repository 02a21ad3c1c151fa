-- Both ends are looked up as one vector, and their masks are joined.
use Rattle.std.proofs.Common.{◌-◌, length, take, drop, ◌∙◌, ap, arith, length-drop}
use Rattle.std.proofs.lemmas.List.{length-take-le}
use Rattle.mime_search.specs.Classes.{is_stop, stops}
use Rattle.mime_search.proofs.Masks.{mask-halves, mask-joined}
use Rattle.mime_search.proofs.start.stops_in_halves.Goals as goal

pub returns : goal.returns
returns c =
    let class = c.args.class.now in
    let text = c.args.text.now in
    let back = drop (length text - 8) text in
    let parts = mask-halves (is_stop class) (take 8 text) back c.stops_in_lanes-found.result (length-take-le 8 text c.requires.room)
    (omega (arith, length-drop (length text - 8) text, c.requires.room))
    (c.stops_in_lanes-found.ensures.mask ∙ ap (stops class) c.both_ends.ensures) in
    rw (c.joined.ensures, parts.0, parts.1) (mask-joined (is_stop class) 8 text c.requires.room c.requires.reach)
