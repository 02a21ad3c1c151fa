-- What the program writes of the bytes that it reads: a report on each line, in order.
use Rattle.std.specs.Prelude.{ℕ, List, [], ◌∷◌, ◌++◌, Option, Some, None, codes, flat_map}
use Rattle.std.specs.Str.{IsUtf8}
use Rattle.mime.specs.Values.{MediaType, type_of, subtype_of, suffix_of, Reads}
use Rattle.mime.specs.Faults.{IsFault}
use Rattle.mime.specs.Printed.{error_text}
use Rattle.mime.specs.Cut.{CutItem, good, bad, Cut}
use Rattle.mime.specs.declared.scan.fault.ParseError.{ParseError}
use Rattle.mime_io.specs.Lines.{lines_of, row}
use Rattle.mime_lines.specs.declared.mode.Mode.{Mode}

-- the row of a media type's suffix, if there is one
abbrev pub suffix_row : Option (List ℕ) → List ℕ
suffix_row None = []
suffix_row (Some suffix) = row (codes "suffix ") suffix

abbrev pub param_rows : List (List ℕ × List ℕ) → List ℕ
param_rows pairs = flat_map (λ pair. row (codes "param ") (pair.0 ++ (codes "=" ++ pair.1))) pairs

-- the rows of a value: its kept text, its type, its subtype, its suffix if there is one, and each parameter
abbrev pub value_rows : MediaType → List ℕ
value_rows value = row (codes "ok ") value.kept ++ (row (codes "type ") (type_of value)
    ++ (row (codes "subtype ") (subtype_of value) ++ (suffix_row (suffix_of value) ++ param_rows value.pairs)))

-- the row of an item of a list: the kept text of a media type, or a bad piece
abbrev pub item_row : CutItem → List ℕ
item_row (good piece value) = row (codes "ok ") value.kept
item_row (bad piece) = row (codes "bad ") piece

abbrev pub item_rows : List CutItem → List ℕ
item_rows items = flat_map item_row items

-- what is written of a text: in mode `Parts` the rows of its value, or its fault; in mode `List` the rows of its cut's items
pub data ReportsText : Mode → List ℕ → List ℕ → Type 0 where
  reports_value : {text : List ℕ} (value : MediaType) → Reads text value → ReportsText Mode.Parts text (value_rows value)
  reports_fault : {text : List ℕ} (fault : ParseError)
      → IsFault text fault → ReportsText Mode.Parts text (row (codes "bad ") (error_text fault))
  reports_items : {text : List ℕ} (items : List CutItem) (rest : List ℕ)
      → Cut text items rest → ReportsText Mode.List text (item_rows items)

-- what is written of a line: that it isn't UTF-8, or the report on its text
pub data ReportsLine : Mode → List ℕ → List ℕ → Type 0 where
  reports_no_text : {mode : Mode} {line : List ℕ} → ¬ (IsUtf8 line) → ReportsLine mode line (row (codes "not text") [])
  reports_text : {mode : Mode} {line rows : List ℕ} → IsUtf8 line → ReportsText mode line rows → ReportsLine mode line rows

-- what is written of lines in a row
pub data ReportsLines : Mode → List (List ℕ) → List ℕ → Type 0 where
  no_line_left : {mode : Mode} → ReportsLines mode [] []
  line_more : {mode : Mode} {line : List ℕ} {lines : List (List ℕ)} {rows more : List ℕ}
      → ReportsLine mode line rows → ReportsLines mode lines more → ReportsLines mode (line ∷ lines) (rows ++ more)

-- the text is the report on these bytes
abbrev pub IsReportOf : Mode → List ℕ → List ℕ → Type 0
IsReportOf mode bytes text = ReportsLines mode (lines_of bytes) text
