-- Which mode an argument names.
use Rattle.std.specs.Prelude.{List, ℕ, Option, Some, None, if◌then◌else◌, codes}
use Rattle.std.specs.Str.{bytes_eq}
use Rattle.mime_lines.specs.declared.mode.Mode.{Mode}

-- the mode that an argument names
abbrev pub mode_named : List ℕ → Option Mode
mode_named word = if bytes_eq word (codes "list") then Some Mode.List else None
