-- Each range is written after those before it, and each answer is what it says.
use Rattle.std.proofs.Common.{rules, ◌≡◌, ℕ, ◌+◌, ◌<◌, ◌≤◌, get_or, List, ◌++◌, length, map, drop, ap, ◌∙◌, arith}
use Rattle.std.proofs.{lemmas.Bool.true≢false, lemmas.List.drop_more, lemmas.List.drop_all}
use Rattle.mime.specs.Values.{OwnedMedia}
use Rattle.mime_http.specs.HttpList.{Header}
use Rattle.mime_c.specs.Strings.{strings}
use Rattle.mime_c.specs.Answers.{has_room, has_no_room}
use Rattle.mime_c.specs.HeaderAnswers.{range_texts, ranges_texts, are_ranges, ranges_have_no_memory}
use Rattle.mime_c.proofs.Writing.{leaves-holds, leaves-last, strings_of_ranges}
use Rattle.mime_c.proofs.HeaderRoom.{ranges_fit, ranges_come_back}
use Rattle.mime_c.proofs.mime_accept.Goals as goal

-- The strings of ranges.
abbrev all_of : List OwnedMedia → List ℕ
all_of ranges = strings (ranges_texts (map (λ range. range.media) ranges))

-- The strings of the next range come first.
first_of : (ranges : List OwnedMedia) (i : ℕ) (range : OwnedMedia) → i < length ranges → range ≡ get_or ranges i range
    → all_of (drop i ranges) ≡ strings (range_texts range.media) ++ all_of (drop (i + 1) ranges)
first_of ranges i range more is = search (drop_more, strings_of_ranges, rules)

pub returns-then-out-text : goal.returns-then-out-text
returns-then-out-text c = has_no_room (omega (arith, c.if-out-text.true))

pub returns-in_default : goal.returns-in_default
returns-in_default c = search (has_room, ranges_have_no_memory, true≢false, rules)

pub put_range-at-requires : goal.put_range-at-requires
put_range-at-requires c =
    let ranges = c.ranges-range-items.ensures in
    let header = c.in-Ok.ensures.header in
    let same = ap (λ all. length (strings (ranges_texts all))) (ranges ∙ ap (λ (it : Header). it.ranges) header.2) in
    let room : length (all_of c.ranges-range-items.result.now) ≤ length c.args.out.now =
    omega (arith, ranges_fit c.args.text.now header.0 header.1, same, c.if-out-text.false) in
    leaves-holds c.loop-range.invariant (strings (range_texts c.range-item.result.media)) _
    (first_of c.ranges-range-items.result.now c.loop-range.range-index c.range-item.result c.loop-range-test.true c.range-item.is) room

pub returns : goal.returns
returns c = search (drop_all, leaves-last, has_room, are_ranges, ranges_come_back, rules)
