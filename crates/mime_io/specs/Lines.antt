-- The lines of an input, and how a report writes one.
use Rattle.std.specs.Prelude.{ℕ, List, [], ◌∷◌, ◌++◌, if◌then◌else◌, ◌==◌}
use Rattle.std.specs.List.{onto_first}

-- the lines of bytes: byte 10 ends a line, and what follows the last byte 10 is a line if it isn't empty
abbrev pub lines_of : List ℕ → List (List ℕ)
lines_of [] = []
lines_of (byte ∷ bytes) = if byte == 10 then [] ∷ lines_of bytes else onto_first byte (lines_of bytes)

-- a row of the report is a label, a text and byte 10
abbrev pub row : List ℕ → List ℕ → List ℕ
row label text = label ++ (text ++ 10 ∷ [])
