-- The rows of a report, as the code adds them.
use Rattle.std.proofs.Common.{◌≡◌, ℕ, List, [], ◌∷◌, ◌++◌, refl, ap, sym, subst, ◌∙◌, append_assoc, append-nil, ◌≢◌, codes, Result, Ok, Err}
use Rattle.std.proofs.Common.{OnOk}
use Rattle.mime.specs.Items.{Item, items_of}
use Rattle.mime.specs.Cut.{CutItem, Cut}
use Rattle.mime.specs.Runs.{HasNoItem, IsFirstItem}
use Rattle.mime.specs.Faults.{IsFault, Explains}
use Rattle.mime.specs.declared.scan.fault.ParseError.{ParseError}
use Rattle.mime.specs.declared.scan.fault.ParseError.TheVariants.{NoMemory}
use Rattle.std.specs.Str.{IsUtf8}
use Rattle.mime_io.specs.Lines.{lines_of, row}
use Rattle.mime_lines.specs.Inner.{Adds}
use Rattle.mime_lines.specs.Report.{param_rows, item_row, item_rows, ReportsText, ReportsLine, ReportsLines}
use Rattle.mime_lines.specs.Report.ReportsText.{reports_items}
use Rattle.mime_lines.specs.Report.ReportsLine.{reports_text}
use Rattle.mime_lines.specs.Report.ReportsLines.{no_line_left, line_more}
use Rattle.mime_lines.specs.declared.mode.Mode.{Mode}

-- These are the rows of what `Params` yields.
abbrev pub given_rows : List Item → List ℕ
given_rows [] = []
given_rows (item ∷ items) = row (codes "param ") (item.name ++ (codes "=" ++ item.value)) ++ given_rows items

-- The items of pairs have the rows of the pairs.
pub given_rows-items_of : (pairs : List (List ℕ × List ℕ)) → given_rows (items_of pairs) ≡ param_rows pairs
given_rows-items_of [] = refl
given_rows-items_of ((name, value) ∷ pairs) =
    ap (λ rows. row (codes "param ") (name ++ (codes "=" ++ value)) ++ rows) (given_rows-items_of pairs)

-- What a call that succeeds added is the report.
pub reported : {E : Type 0} (R : List ℕ → Type 0) (result : Result (Unit {0}) E) (rows old new : List ℕ) → R rows
    → OnOk result (new ≡ old ++ rows) → OnOk result (Adds R old new)
reported R (Ok done) rows old new report added = (rows, report, added)
reported R (Err error) rows old new report added = tt

-- The report on a text is the report on its line.
pub reported-line : {E : Type 0} (result : Result (Unit {0}) E) (mode : Mode) (text line old new : List ℕ) → text ≡ line
    → IsUtf8 line → OnOk result (Adds (ReportsText mode text) old new) → OnOk result (Adds (ReportsLine mode line) old new)
reported-line (Ok done) mode text line old new is utf8 (rows, report, added) =
    (rows, reports_text utf8 (subst (λ t. ReportsText mode t rows) is report), added)
reported-line (Err error) mode text line old new is utf8 added = tt

-- A line's report goes before that on the lines after it.
pub ReportsLines-step : (mode : Mode) (input rest line tail old new : List ℕ) → lines_of rest ≡ line ∷ lines_of tail
    → ((more : List ℕ) → ReportsLines mode (lines_of rest) more → ReportsLines mode (lines_of input) (old ++ more))
    → Adds (ReportsLine mode line) old new
    → (more : List ℕ) → ReportsLines mode (lines_of tail) more → ReportsLines mode (lines_of input) (new ++ more)
ReportsLines-step mode input rest line tail old new cut whole (rows, report, added) more reports =
    let joined : old ++ (rows ++ more) ≡ new ++ more = sym (append_assoc old rows more) ∙ ap (λ text. text ++ more) (sym added) in
    subst (λ text. ReportsLines mode (lines_of input) text) joined
    (whole (rows ++ more) (subst (λ lines. ReportsLines mode lines (rows ++ more)) (sym cut) (line_more report reports)))

-- If no lines are left, the report is complete.
pub ReportsLines-end : (mode : Mode) (input rest report : List ℕ) → lines_of rest ≡ []
    → ((more : List ℕ) → ReportsLines mode (lines_of rest) more → ReportsLines mode (lines_of input) (report ++ more))
    → ReportsLines mode (lines_of input) report
ReportsLines-end mode input rest report none whole =
    subst (λ text. ReportsLines mode (lines_of input) text) (append-nil report)
    (whole [] (subst (λ lines. ReportsLines mode lines []) (sym none) no_line_left))

-- ---- items

-- This says what was added of a text's items, and what is left of it to add.
pub record IsListing (text left old new : List ℕ) : Type 0 where
  pub onward : (items : List CutItem) (rest : List ℕ) → Cut left items rest
      → (all : List CutItem) × Cut text all rest × (old ++ item_rows all ≡ new ++ item_rows items)

-- The row of the next item goes before those of the others.
pub listing-step : (text left next old new added rows : List ℕ) (item : CutItem) → IsListing text left old new
    → IsFirstItem left item next → rows ≡ item_row item → added ≡ new ++ rows → IsListing text next old added
listing-step text left next old new added rows item listing first is joined = record {
  onward = λ items rest cut.
      let all = listing.onward (item ∷ items) rest (first items rest cut) in (
        all.0,
        all.1,
        all.2 ∙ ap (λ it. new ++ (it ++ item_rows items)) (sym is) ∙ sym (append_assoc new rows (item_rows items))
            ∙ ap (λ it. it ++ item_rows items) (sym joined),
      );
}

-- If no item is left, the text is reported.
pub listing-end : (text left old new : List ℕ) → IsListing text left old new → HasNoItem left
    → Adds (ReportsText Mode.List text) old new
listing-end text left old new listing (rest, cut) =
    let all = listing.onward [] rest cut in
    (item_rows all.0, reports_items all.0 rest all.1, sym (append-nil new) ∙ sym all.2)

-- If no parameters are left, all rows are added.
pub param_rows-end : (old new : List ℕ) (all left : List Item) (pairs : List (List ℕ × List ℕ)) → left ≡ []
    → all ≡ items_of pairs → new ++ given_rows left ≡ old ++ given_rows all → new ≡ old ++ param_rows pairs
param_rows-end old new all left pairs none items added =
    sym (append-nil new) ∙ ap (λ xs. new ++ given_rows xs) (sym none) ∙ added ∙ ap (λ xs. old ++ given_rows xs) items
    ∙ ap (λ rows. old ++ rows) (given_rows-items_of pairs)

-- An error other than want of memory is the text's fault.
pub fault-explained : (text : List ℕ) (fault : ParseError) → Explains text fault → fault ≢ NoMemory → IsFault text fault
fault-explained text NoMemory why other = absurd (other refl)
fault-explained text fault why other = why
