-- What is read so far is written, and at this position nothing but a semicolon or the end goes on.
use Rattle.mime_http.proofs.Common.{Parts, answer_of, before_semicolon, false, is_space, length, text_of_parts, ◌*◌, ◌-◌, ◌<◌, ◌≡◌, ◌≤◌}
use Rattle.mime_http.proofs.Common.{slice_index, RoomHolds, answer_at}
use Rattle.mime_http.proofs.reader.write_anew.Given as goal

abbrev pub invariant-loop-at : goal.invariant-loop-at
invariant-loop-at l = record {
  parts : Parts;
  read : answer_of l.value ≡ answer_at l.value (before_semicolon parts) l.at;
  holds : RoomHolds l.room l.len (text_of_parts parts);
  within : l.at ≤ length l.value;
  other : l.at < length l.value → is_space (slice_index l.value l.at) ≡ false;
  few : l.len ≤ 2 * l.at;
  room : length l.room ≡ length l.fn.room;
}

abbrev pub decreases-loop-at : goal.decreases-loop-at
decreases-loop-at l = length l.value - l.at
