-- A text may be cut at its start.
use Rattle.std.proofs.lemmas.Str.{IsCharBoundary-start}
use Rattle.mime.proofs.iter.nothing_of.Goals as goal

pub range-requires-clause-end_boundary : goal.range-requires-clause-end_boundary
range-requires-clause-end_boundary c = IsCharBoundary-start c.args.text.now c.utf8.text
