-- Texts whose last and first blocks reach over the whole are equal exactly if those are.
use Rattle.std.proofs.Common.{rules}
use Rattle.mime_search.proofs.{IgnoringCase.lowered-take, IgnoringCase.lowered_rest, IgnoringCase.lapped}
use Rattle.mime_search.proofs.ignoring_case.eq_at_both_ends.Goals as goal

pub returns-then-eq_byte_by_byte : goal.returns-then-eq_byte_by_byte
returns-then-eq_byte_by_byte c = search (lowered-take, lowered_rest, lapped, rules)

pub returns-else-eq_byte_by_byte : goal.returns-else-eq_byte_by_byte
returns-else-eq_byte_by_byte c = search (lowered_rest, rules)
