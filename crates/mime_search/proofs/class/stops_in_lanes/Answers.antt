-- Inside the ranges are the bytes that aren't outside.
use Rattle.std.proofs.Common.{rules}
use Rattle.mime_search.proofs.Lanes.{stops_inside}
use Rattle.mime_search.proofs.class.stops_in_lanes.Goals as goal

pub returns-then-class-clause-mask : goal.returns-then-class-clause-mask
returns-then-class-clause-mask c = search (stops_inside, rules)
