-- The report on a text is that on its line.
use Rattle.std.proofs.Common.{refl}
use Rattle.mime_lines.proofs.Rows.{reported-line}
use Rattle.mime_lines.proofs.report.push_text.Goals as goal

pub returns-in-Parts : goal.returns-in-Parts
returns-in-Parts c = rw c.in-Parts.is (reported-line _ _ _ _ _ _ refl c.utf8.text c.push_reading.ensures)

pub returns-in-List : goal.returns-in-List
returns-in-List c = rw c.in-List.is (reported-line _ _ _ _ _ _ refl c.utf8.text c.push_items.ensures)
