-- The laws of a header's value: what it is, what is printed of it, and its fault.
use Rattle.std.specs.Prelude.{◌≡◌, ℕ, List}
use Rattle.mime.specs.{Values.MediaType, Values.Reads, Comparison.Same, Laws.ExactlyOne}
use Rattle.mime_http.specs.{HttpMediaType.HttpReads, HttpMediaType.IsHttpMediaType, HttpList.IsPrinted, HttpFaults.IsHttpFault}

-- HTTP allows whatever `mime` reads, as the same media type.
abbrev pub PlainIsHttp : Type 0
PlainIsHttp = (value : List ℕ) (media : MediaType) → Reads value media → HttpReads value media

-- HTTP's grammar spells some values by several trees, but each value is read as one media type.
abbrev pub OneHttpReading : Type 0
OneHttpReading = (value : List ℕ) (first second : MediaType) → HttpReads value first → HttpReads value second → Same first second

-- Each value has one printed text.
abbrev pub OnePrintedText : Type 0
OnePrintedText = (value : List ℕ) (first second : MediaType) → HttpReads value first → IsPrinted value first → HttpReads value second
    → IsPrinted value second → first ≡ second

-- The printed text of a value is read by `mime`, and so by HTTP's grammar, as the same media type, with the same text.
abbrev pub PrintedIsRead : Type 0
PrintedIsRead = (value : List ℕ) (media : MediaType) → HttpReads value media → IsPrinted value media
    → Reads media.kept media × HttpReads media.kept media

-- A value that HTTP doesn't allow has exactly one fault.
abbrev pub OneHttpFault : Type 0
OneHttpFault = (value : List ℕ) → ¬ (IsHttpMediaType value) → ExactlyOne (IsHttpFault value)
