-- What is read so far is kept, and was taken off the source.
use Rattle.std.proofs.Common.{◌≡◌, ◌+◌, ◌≤◌, ◌-◌, length}
use Rattle.std.specs.Io.KnownBytes.{Consumes}
use Rattle.mime_io.specs.Stops.{limit}
use Rattle.mime_io.proofs.input.read_past_limit.Given as goal

abbrev pub invariant-loop-block : goal.invariant-loop-block
invariant-loop-block g l =
    (length l.input.items ≤ limit + 1) × Consumes (g.S.Source.left l.initial.source) (g.S.Source.left l.source) l.input.items
    × (g.S.Source.has_failed l.source ≡ g.S.Source.has_failed l.initial.source)

abbrev pub decreases-loop-block : goal.decreases-loop-block
decreases-loop-block g l = limit + 1 - length l.input.items
