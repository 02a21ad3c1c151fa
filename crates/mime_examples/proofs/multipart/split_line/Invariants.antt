-- No byte so far is a line feed.
use Rattle.std.proofs.Common.{take}
use Rattle.mime_examples.specs.Multipart.{IsLine}
use Rattle.mime_examples.proofs.multipart.split_line.Given as goal

abbrev pub invariant-loop-at : goal.invariant-loop-at
invariant-loop-at l = IsLine (take l.at l.text)
