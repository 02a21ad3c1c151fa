-- Why a header's value is rejected: which values may still become a media type that HTTP allows, and its one fault. This is as in the file
-- `Faults` of `mime`, with `IsHttpMediaType` for accepted.
use Rattle.std.specs.Prelude.{◌≡◌, ℕ, List, ◌++◌, length, slice_get, Some}
use Rattle.std.specs.Str.{IsUtf8, IsValidUpTo}
use Rattle.mime.specs.Values.{MediaType, NeedsMemory}
use Rattle.mime.specs.Faults.{IsLongest, LacksTo}
use Rattle.mime.specs.declared.scan.fault.ParseError.{ParseError}
use Rattle.mime.specs.declared.scan.fault.ParseError.TheVariants.{InvalidToken}
use Rattle.mime_http.specs.HttpMediaType.{HttpReads, IsHttpMediaType}
use Rattle.mime_http.specs.HttpList.{IsPrinted}
use Rattle.mime_http.specs.declared.value.FieldError.{FieldError}
use Rattle.mime_http.specs.declared.value.FieldError.TheVariants.{NotUtf8, Invalid, NoMemory}

-- some media type that HTTP allows begins with these bytes
abbrev pub IsHttpViable : List ℕ → Type 0
IsHttpViable prefix = (more : List ℕ) × IsHttpMediaType (prefix ++ more)

-- the fault of a value that isn't a media type: what it lacks, or the byte just after the longest viable prefix, at position `pos` in
-- bytes from 0
abbrev pub IsHttpFault : List ℕ → ParseError → Type 0
IsHttpFault value (InvalidToken pos byte) = IsLongest IsHttpViable value pos × (slice_get value pos ≡ Some byte)
IsHttpFault value fault = LacksTo IsHttpMediaType value fault

-- the value is a media type that needs memory for what is printed
abbrev pub ValueNeedsMemory : List ℕ → Type 0
ValueNeedsMemory value = (media : MediaType) × HttpReads value media × IsPrinted value media × NeedsMemory media

-- why reading a value fails: the position at which it isn't UTF-8, its fault, or that memory ran out
abbrev pub HttpExplains : List ℕ → FieldError → Type 0
HttpExplains value (NotUtf8 pos) = ¬ (IsUtf8 value) × IsValidUpTo value pos
HttpExplains value (Invalid fault) = IsUtf8 value × IsHttpFault value fault
HttpExplains value NoMemory = IsUtf8 value × ValueNeedsMemory value

-- the position at which a value fails: of the byte at fault, or the value's length if something is missing at its end or memory ran out
abbrev pub fault_position : List ℕ → FieldError → ℕ
fault_position value (NotUtf8 pos) = pos
fault_position value (Invalid (InvalidToken pos byte)) = pos
fault_position value error = length value
