-- The essence is written, and then each parameter that is read, up to a fault or the end.
use Rattle.mime_http.proofs.Common.{RoomHolds, IsEssenceAt, List, Parts, after_semicolon, answer_at, answer_of, ap, ap₂, append_assoc}
use Rattle.mime_http.proofs.Common.{codes, append-nil, arith, before_semicolon, cases_lt, false, is_space, length, next, refl, slice_index}
use Rattle.mime_http.proofs.Common.{slice_range, subst, sym, text_of_parts, parts_with, [], ℕ, ◌+◌, ◌++◌, ◌<◌, ◌∙◌, ◌∷◌, ◌≡◌, ◌≤◌}
use Rattle.mime_http.proofs.ReadAt.{length-part, nothing_between, one_written, over_byte, over_white_at, run_end, run_is}
use Rattle.mime_http.proofs.Runs.{keeps_after, keeps_inside}
use Rattle.mime_http.proofs.reader.write_anew.Goals as goal

-- Reading goes on up to what follows the white space after a semicolon.
to_next : (parts : Parts) (value : List ℕ) (at to : ℕ) → answer_of value ≡ answer_at value (before_semicolon parts) at
    → at < length value → slice_index value at ≡ 59 → to ≡ run_end is_space value (at + 1) → to ≤ length value
    → answer_of value ≡ answer_at value (after_semicolon parts) to
to_next parts value at to so_far within is end most =
    so_far ∙ over_byte value at (before_semicolon parts) (after_semicolon parts) within (ap (next (before_semicolon parts)) is)
    ∙ over_white_at (after_semicolon parts) (keeps_inside parts) value (at + 1) to (run_is is_space value (at + 1) to end) most

pub loop-at-init : goal.loop-at-init
loop-at-init c =
    let value = c.args.value.now in
    let ends = c.in-Ok.essence in
    let is : IsEssenceAt value ends.0 ends.1 = c.in-Ok.ensures in
    let parts : Parts = record { top = is.top; sub = is.sub; pairs = [] } in
    let at = c.spaces_end-at in
    let white = run_is is_space value ends.1 at.result at.ensures.end in
    let nothing : RoomHolds c.args.room.now 0 [] = record { long = refl; held = λ fits. refl } in
    let text : slice_range value ends.0 ends.1 ≡ text_of_parts parts =
    sym is.written ∙ ap (λ sub. is.top ++ (47 ∷ sub)) (sym (append-nil is.sub)) in
    record {
      parts = parts;
      read = is.read ∙ over_white_at (before_semicolon parts) (keeps_after parts) value ends.1 at.result white at.ensures.within;
      holds = subst (RoomHolds c.put-len.new.room c.put-len.result) text (c.put-len.ensures.holds [] nothing);
      within = at.ensures.within;
      other = white.stops;
      few = omega (arith, c.put-len.ensures.len, length-part value ends.0 ends.1 is.within, white.least);
      room = c.put-len.ensures.room;
    }

pub returns-in-Err-parameter_at-clause-answer : goal.returns-in-Err-parameter_at-clause-answer
returns-in-Err-parameter_at-clause-answer c =
    let keeps = c.loop-at.invariant in
    let next = c.spaces_end-at-in-loop-at in
    to_next keeps.parts c.args.value.now c.loop-at.at next.result keeps.read c.loop-at-test.true c.if-byte-ne59.false
    next.ensures.end next.ensures.within ∙ c.in-Err-parameter_at.ensures keeps.parts

pub loop-at-preserved-then-is_token_at : goal.loop-at-preserved-then-is_token_at
loop-at-preserved-then-is_token_at c =
    let value = c.args.value.now in
    let keeps = c.loop-at.invariant in
    let next = c.spaces_end-at-in-loop-at in
    let (name, front, is) = c.in-Ok-parameter_at.ensures in
    let spans = c.in-Ok-parameter_at.spans in
    let parts : Parts = parts_with keeps.parts name is.content in
    let at = c.spaces_end-at-then-is_token_at in
    let inside = run_is is_space value (c.loop-at.at + 1) next.result next.ensures.end in
    let white = run_is is_space value spans.end at.result at.ensures.end in
    let put = c.put_parameter-len in
    let one = ap₂ (λ xs ys. codes "; " ++ (xs ++ ys)) (sym front) (sym is.written)
    ∙ ap (λ xs. codes "; " ++ xs) (append_assoc name (61 ∷ []) _) in
    let text = ap (λ xs. text_of_parts keeps.parts ++ xs) one ∙ one_written keeps.parts name is.content in
    record {
      parts = parts;
      read = to_next keeps.parts value c.loop-at.at next.result keeps.read c.loop-at-test.true c.if-byte-ne59.false
          next.ensures.end next.ensures.within ∙ is.read keeps.parts
          ∙ over_white_at (before_semicolon parts) (keeps_after parts) value spans.end at.result white at.ensures.within;
      holds = subst (RoomHolds put.new.room put.result) text (put.ensures.holds (text_of_parts keeps.parts) keeps.holds);
      within = at.ensures.within;
      other = white.stops;
      few = omega (arith, keeps.few, put.ensures.len, inside.least, white.least, is.most, is.least, is.apart, is.some);
      room = put.ensures.room ∙ keeps.room;
    }

-- If no white space is at a position, none is at the last of the semicolons there.
none_after : (value : List ℕ) (from to : ℕ) → from ≤ to → (from < length value → is_space (slice_index value from) ≡ false)
    → (from < to → is_space (slice_index value to) ≡ false) → to < length value → is_space (slice_index value to) ≡ false
none_after value from to least here there within = grind (arith, cases_lt)

pub loop-at-preserved : goal.loop-at-preserved
loop-at-preserved c =
    let value = c.args.value.now in
    let keeps = c.loop-at.invariant in
    let next = c.spaces_end-at-in-loop-at in
    let last = c.last_semicolon-at in
    let inside = run_is is_space value (c.loop-at.at + 1) next.result next.ensures.end in
    record {
      parts = keeps.parts;
      read = to_next keeps.parts value c.loop-at.at next.result keeps.read c.loop-at-test.true c.if-byte-ne59.false
          next.ensures.end next.ensures.within
          ∙ nothing_between keeps.parts value next.result inside.stops (c.is_token_at.ensures.no c.if-is_token_at.false)
          ∙ last.ensures.same keeps.parts;
      holds = keeps.holds;
      within = last.ensures.within;
      other = none_after value next.result last.result last.ensures.least inside.stops last.ensures.other;
      few = omega (arith, keeps.few, inside.least, last.ensures.least);
      room = keeps.room;
    }
