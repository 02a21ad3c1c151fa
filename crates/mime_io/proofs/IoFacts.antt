-- Lines, rows and errors for which each definition is true, and others for which it is false, so that a definition that says less or more
-- doesn't check.
use Rattle.std.proofs.Common.{◌≡◌, ◌*◌, [], ◌∷◌, map, refl, codes}
use Rattle.mime_io.specs.declared.error.RunError.TheVariants.{Read, Write, TooLong, NoMemory}
use Rattle.mime_io.specs.{Lines.lines_of, Lines.row, Stops.limit, Stops.stop_text}

-- No bytes have no line.
no_lines : lines_of [] ≡ []
no_lines = refl

-- A single byte 10 ends one empty line.
one_empty_line : lines_of (10 ∷ []) ≡ [] ∷ []
one_empty_line = refl

-- The last line may lack its end.
last_line_without_end : lines_of (codes "a/b\n\nc") ≡ codes "a/b" ∷ [] ∷ codes "c" ∷ []
last_line_without_end = refl

-- Byte 13 belongs to its line.
line_with_return : lines_of (codes "a\r\nb\n") ≡ codes "a\r" ∷ codes "b" ∷ []
line_with_return = refl

-- The row of an empty text ends with a space.
empty_row : row (codes "subtype ") [] ≡ codes "subtype \n"
empty_row = refl

-- An input has at most 1,024 times 1,024 bytes.
limit_of_input : limit ≡ 1024 * 1024
limit_of_input = refl

-- Each error prints its words.
printed_errors :
    map stop_text (Read ∷ Write ∷ TooLong ∷ NoMemory ∷ []) ≡ codes "read" ∷ codes "write" ∷ codes "too long" ∷ codes "no memory" ∷ []
printed_errors = refl
