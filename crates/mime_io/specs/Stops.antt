-- How much a program reads, and what is printed if a run stops.
use Rattle.std.specs.Prelude.{List, ℕ, codes}
use Rattle.mime_io.specs.declared.error.RunError.{RunError}
use Rattle.mime_io.specs.declared.error.RunError.TheVariants.{Read, Write, TooLong, NoMemory}

-- the most bytes of an input
abbrev pub limit : ℕ
limit = 1048576

-- what an error prints
abbrev pub stop_text : RunError → List ℕ
stop_text Read = codes "read"
stop_text Write = codes "write"
stop_text TooLong = codes "too long"
stop_text NoMemory = codes "no memory"
