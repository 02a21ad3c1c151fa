-- The byte at the position found is the one that was looked for.
use Rattle.std.proofs.Common.{arith}
use Rattle.std.specs.Prelude.{◌==◌, not}
use Rattle.std.proofs.{lemmas.List.Sums.prefix_len-le-length, lemmas.Option.get_or_from_slice_get}
use Rattle.mime_search.proofs.Rests.{slice_get-first_position}
use Rattle.mime_search.proofs.rest.Rest.split_at_first.Goals as goal

pub split_around-requires-clause-within : goal.split_around-requires-clause-within
split_around-requires-clause-within c =
    omega (arith, c.position_of.ensures, prefix_len-le-length (λ b. not (b == c.args.byte)) c.args.self.now)

pub split_around-requires-clause-ascii : goal.split_around-requires-clause-ascii
split_around-requires-clause-ascii c = λ within.
    let there = slice_get-first_position c.args.byte c.args.self.now c.position_of.result (cc) within in
    omega (arith, get_or_from_slice_get c.args.self.now c.position_of.result c.args.byte 0 there, c.requires.ascii)
