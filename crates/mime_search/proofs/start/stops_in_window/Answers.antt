-- The masks of both ends are joined.
use Rattle.std.proofs.Common.{◌≡◌, ◌*◌, ◌+◌, ◌/◌, ◌%◌, ◌^◌, ◌-◌, ◌≤◌, length, take, drop, ap, ◌∙◌, arith, length-drop}
use Rattle.std.proofs.lemmas.List.{take_all}
use Rattle.mime_search.specs.Classes.{is_stop, stops}
use Rattle.mime_search.proofs.Masks.{mask-joined, mask-two, mask-end}
use Rattle.mime_search.proofs.start.stops_in_window.Goals as goal

pub returns-then-size : goal.returns-then-size
returns-then-size c =
    let class = c.args.class.now in
    let text = c.args.text.now in
    let all = take_all 16 (drop (length text - 16) text) (omega (arith, length-drop (length text - 16) text)) in
    let back = c.stops_in_block-last.ensures.mask ∙ ap (stops class) all in
    rw (c.joined.ensures, c.requires.first, back) (mask-joined (is_stop class) 16 text c.requires.room (omega (arith, c.if-size.true)))

pub returns : goal.returns
returns c =
    let class = c.args.class.now in
    let text = c.args.text.now in
    let room : 32 ≤ length text = omega (arith, c.if-size.false) in
    let start : c.args.first + c.stops_in_block.result * 65536 % 2 ^ 64 ≡ stops class (take 32 text) =
    omega (arith, mask-two (is_stop class) text room, c.requires.first, c.stops_in_block.ensures.mask, c.stops_in_block.ensures.few) in
    let end : c.stops_in_block-2.result + c.stops_in_block-last.result * 65536 % 2 ^ 64 ≡ stops class (drop (length text - 32) text) =
    omega (
      arith,
      mask-end (is_stop class) text room,
      c.stops_in_block-2.ensures.mask,
      c.stops_in_block-last.ensures.mask,
      c.stops_in_block-last.ensures.few,
    ) in
    c.joined-2.ensures ∙ (λ i. start i + end i / 2 ^ (64 - length text) * 2 ^ 32)
    ∙ mask-joined (is_stop class) 32 text room c.requires.reach
