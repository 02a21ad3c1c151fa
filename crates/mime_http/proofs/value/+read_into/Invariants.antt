-- A block is larger than the room before it.
use Rattle.std.proofs.Common.{length, ◌-◌, ◌^◌}
use Rattle.mime_http.proofs.value.+read_into.Given as goal

abbrev pub decreases-read_into : goal.decreases-read_into
decreases-read_into l = 2 ^ 64 - length l.room.now
