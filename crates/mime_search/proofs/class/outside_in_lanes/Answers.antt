-- Each byte is compared in a lane of its own.
use Rattle.std.proofs.Common.{rules}
use Rattle.mime_search.proofs.{Lanes.outside_lanes, Masks.mask-lt}
use Rattle.mime_search.proofs.class.outside_in_lanes.Goals as goal

pub returns-clause-mask : goal.returns-clause-mask
returns-clause-mask c = outside_lanes c.args.class.now c.args.bytes c.fits-bytes.0

pub returns-clause-few : goal.returns-clause-few
returns-clause-few c = search (outside_lanes, mask-lt, rules)
