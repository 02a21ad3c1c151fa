-- The mask of a block has a bit for each of its bytes.
use Rattle.std.proofs.Common.{rules}
use Rattle.std.proofs.lemmas.List.{length-take-le}
use Rattle.mime_search.proofs.Masks.{mask-lt}
use Rattle.mime_search.proofs.start.search_start.Goals as goal

pub stops_in_window-requires-clause-few : goal.stops_in_window-requires-clause-few
stops_in_window-requires-clause-few c = search (length-take-le, mask-lt, rules)
