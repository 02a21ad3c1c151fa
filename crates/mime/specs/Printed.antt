-- How an error is printed.
use Rattle.std.specs.Prelude.{ℕ, true, List, ◌++◌, codes}
use Rattle.std.specs.Fmt.{digits, decimal}
use Rattle.mime.specs.declared.scan.fault.ParseError.{ParseError}
use Rattle.mime.specs.declared.scan.fault.ParseError.TheVariants.{MissingSlash, MissingSubtype, MissingEqual, MissingValue, MissingQuote}
use Rattle.mime.specs.declared.scan.fault.ParseError.TheVariants.{InvalidToken, NoMemory}

-- what a `ParseError` prints: a byte in uppercase hexadecimal without leading zeros, and its position (in bytes from 0) in decimal
abbrev pub fault_text : ParseError → List ℕ
fault_text MissingSlash = codes "a slash (/) was missing between the type and subtype"
fault_text MissingSubtype = codes "a subtype was missing behind the slash (/)"
fault_text MissingEqual = codes "an equals sign (=) was missing between a parameter and its value"
fault_text MissingValue = codes "a value was missing behind the equals sign (=)"
fault_text MissingQuote = codes "a quote (\") was missing from a parameter value"
fault_text (InvalidToken pos byte) =
    codes "an invalid token was encountered, " ++ (digits 16 true byte ++ (codes " at position " ++ decimal pos))
fault_text NoMemory = codes "memory ran out"

-- what a `FromStrError` prints
abbrev pub error_text : ParseError → List ℕ
error_text fault = codes "mime parse error: " ++ fault_text fault
