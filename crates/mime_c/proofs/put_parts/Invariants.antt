-- The names and values that are left are left to write.
use Rattle.std.proofs.Common.{◌++◌, take}
use Rattle.mime_c.specs.Strings.{strings, parts_of}
use Rattle.mime_c.proofs.Writing.{Leaves, given_texts}
use Rattle.mime_c.proofs.put_parts.Given as goal

abbrev pub invariant-loop-name : goal.invariant-loop-name
invariant-loop-name l =
    Leaves l.fn.out l.out l.end (strings (given_texts l.name-iterator)) (take l.fn.at l.fn.out ++ strings (parts_of l.fn.mime.media))
