-- The rows that are added, and the items that are left.
use Rattle.std.proofs.Common.{string_bytes}
use Rattle.mime_lines.proofs.Rows.{IsListing}
use Rattle.mime_lines.proofs.report.push_items.Given as goal

abbrev pub invariant-loop-item : goal.invariant-loop-item
invariant-loop-item l = IsListing l.fn.text l.item-iterator.left (string_bytes l.initial.report) (string_bytes l.report)
