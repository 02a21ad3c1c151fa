-- How a `FieldError` is printed.
use Rattle.std.specs.Prelude.{ℕ, List, ◌++◌, codes}
use Rattle.std.specs.Fmt.{decimal}
use Rattle.mime.specs.Printed.{error_text}
use Rattle.mime_http.specs.declared.value.FieldError.{FieldError}
use Rattle.mime_http.specs.declared.value.FieldError.TheVariants.{NotUtf8, Invalid, NoMemory}

-- what a `FieldError` prints: the position, in bytes from 0, in decimal; a fault as a `FromStrError` with it
abbrev pub field_error_text : FieldError → List ℕ
field_error_text (NotUtf8 pos) = codes "the value isn't UTF-8 at position " ++ decimal pos
field_error_text (Invalid fault) = error_text fault
field_error_text NoMemory = codes "memory ran out"
