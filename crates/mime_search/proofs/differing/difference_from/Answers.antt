-- The mask of the lanes tells whether and where the blocks differ.
use Rattle.std.proofs.Common.{rules}
use Rattle.mime_search.proofs.FirstDifference.{in_word, none_differs, lowest_differs}
use Rattle.mime_search.proofs.differing.difference_from.Goals as goal

pub returns-then-differ-eq0-clause-none : goal.returns-then-differ-eq0-clause-none
returns-then-differ-eq0-clause-none c = search (in_word, none_differs, rules)

pub returns-else-differ-eq0-clause-some : goal.returns-else-differ-eq0-clause-some
returns-else-differ-eq0-clause-some c = search (in_word, lowest_differs, rules)
