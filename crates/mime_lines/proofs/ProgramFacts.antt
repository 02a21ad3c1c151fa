-- Rows, reports and arguments for which each definition is true, and others for which it is false, so that a definition that says less or
-- more doesn't check.
use Rattle.std.proofs.Common.{◌≡◌, ℕ, List, [], ◌∷◌, length, refl, sym, ap, ◌∙◌, subst, arith, codes}
use Rattle.std.proofs.{Math.Seq.take-length, lemmas.Option.slice_get_within}
use Rattle.std.specs.Prelude.{Some, None}
use Rattle.std.specs.Str.{IsUtf8}
use Rattle.mime.specs.Bytes.{is_token_byte}
use Rattle.mime.specs.Grammar.{no_list}
use Rattle.mime.specs.Values.{MediaType, Reads, IsRejected}
use Rattle.mime.specs.Faults.{IsFault, IsViable}
use Rattle.mime.specs.Printed.{error_text}
use Rattle.mime.specs.Cut.{good, bad}
use Rattle.mime.specs.Laws.{OneReading, OneFault, CompletedIsRejected, AcceptedIsViable}
use Rattle.mime.specs.CutLaws.{OneCut}
use Rattle.mime.specs.declared.scan.fault.ParseError.{ParseError}
use Rattle.mime.specs.declared.scan.fault.ParseError.TheVariants.{InvalidToken}
use Rattle.mime_lines.specs.declared.mode.Mode.{Mode}
use Rattle.mime_lines.specs.Program.{mode_named}
use Rattle.mime_lines.specs.Report.{suffix_row, param_rows, value_rows, item_rows, ReportsText, ReportsLine, ReportsLines, IsReportOf}
use Rattle.mime_lines.specs.Report.ReportsText.{reports_value, reports_fault, reports_items}
use Rattle.mime_lines.specs.Report.ReportsLine.{reports_no_text, reports_text}
use Rattle.mime_lines.specs.Report.ReportsLines.{no_line_left, line_more}
use Rattle.mime_io.specs.Lines.{row}
use lib.Utf8.{encode}

-- A value with a suffix and a parameter has a row for each.
rows_of_value :
    value_rows (record {
      essence = codes "text/html+xml";
      slash = 4;
      plus = Some 9;
      pairs = (codes "q", codes "1") ∷ [];
      kept = codes "text/html+xml;q=1";
    }) ≡ codes "ok text/html+xml;q=1\ntype text\nsubtype html\nsuffix xml\nparam q=1\n"
rows_of_value = refl

-- The row of a good item is its kept text, and that of a bad one its piece.
rows_of_items :
    item_rows (
    bad (codes "invalid")
    ∷ good (codes "TEXT/HTML;") (record { essence = codes "text/html"; slash = 4; plus = None; pairs = []; kept = codes "text/html" })
    ∷ []
    ) ≡ codes "bad invalid\nok text/html\n"
rows_of_items = refl

-- The word `list` names a mode.
list_names_a_mode : mode_named (codes "list") ≡ Some Mode.List
list_names_a_mode = refl

-- No mode is named in capitals.
capitals_name_no_mode : mode_named (codes "LIST") ≡ None
capitals_name_no_mode = refl

-- A suffix has a row, even if it is empty, and none has none.
suffix_rows : (suffix_row (Some (codes "xml")) ≡ codes "suffix xml\n") × (suffix_row (Some []) ≡ codes "suffix \n")
    × (suffix_row None ≡ [])
suffix_rows = (refl, refl, refl)

-- A value without a suffix and parameters has no rows for them.
rows_left_out : (suffix_row None ≡ []) × (param_rows [] ≡ [])
rows_left_out = (refl, refl)

-- ---- reports

-- This is the value of `a/b`.
abbrev text_value : MediaType
text_value = record { essence = codes "a/b"; slash = 1; plus = None; pairs = []; kept = codes "a/b" }

-- The text `a/b` is read as this value.
reads_text : Reads (codes "a/b") text_value
unfolding is_token_byte
reads_text = record {
  tree = record { top = codes "a"; sub = codes "b"; tail = no_list };
  well_formed = (refl, refl, tt);
  spelled = refl;
  valued = refl;
}

-- The report on a line has the rows of its value.
report_of_line : IsReportOf Mode.Parts (codes "a/b\n") (codes "ok a/b\ntype a\nsubtype b\n")
unfolding encode
report_of_line = line_more (reports_text (codes "a/b", (refl, refl)) (reports_value text_value reads_text)) no_line_left

-- Bytes that aren't UTF-8 are reported as not text.
report_of_bytes : (mode : Mode) → ¬ (IsUtf8 (255 ∷ [])) → ReportsLine mode (255 ∷ []) (codes "not text\n")
report_of_bytes mode not_utf8 = reports_no_text not_utf8

-- A text with a fault is rejected.
rejected_by_laws : CompletedIsRejected → AcceptedIsViable → (text : List ℕ) (fault : ParseError) → IsFault text fault
    → IsRejected text
rejected_by_laws completed viable text (InvalidToken pos byte) dead = λ accepted.
    dead.prefix.longest (length text) (slice_get_within text pos byte dead.there) (omega arith)
    (subst IsViable (sym (take-length text)) (viable text accepted))
rejected_by_laws completed viable text fault lacks = completed text fault lacks

-- A text has one report.
one_report : OneReading → OneFault → CompletedIsRejected → AcceptedIsViable → OneCut
    → (mode : Mode) (text first second : List ℕ) → ReportsText mode text first → ReportsText mode text second → first ≡ second
one_report reading one completed viable cut mode text first second (reports_value value reads) (reports_value other again) =
    ap value_rows (reading text value other reads again)
one_report reading one completed viable cut mode text first second (reports_value value reads) (reports_fault fault is) =
    absurd (rejected_by_laws completed viable text fault is (value, reads))
one_report reading one completed viable cut mode text first second (reports_fault fault is) (reports_value value reads) =
    absurd (rejected_by_laws completed viable text fault is (value, reads))
one_report reading one completed viable cut mode text first second (reports_fault fault is) (reports_fault other also) =
    let only = one text (rejected_by_laws completed viable text fault is) in
    ap (λ it. row (codes "bad ") (error_text it)) (only.2 fault is ∙ sym (only.2 other also))
one_report reading one completed viable cut mode text first second (reports_items items rest is) (reports_items others left also) =
    let only = cut text in ap item_rows ((only.3 items rest is).0 ∙ sym (only.3 others left also).0)

-- A line has one report: no text is reported as not text.
one_report-line : (mode : Mode) (line first second : List ℕ)
    → ((text rows others : List ℕ) → ReportsText mode text rows → ReportsText mode text others → rows ≡ others)
    → ReportsLine mode line first → ReportsLine mode line second → first ≡ second
one_report-line mode line first second one (reports_no_text isnt) (reports_no_text too) = refl
one_report-line mode line first second one (reports_no_text isnt) (reports_text utf8 report) = absurd (isnt utf8)
one_report-line mode line first second one (reports_text utf8 report) (reports_no_text isnt) = absurd (isnt utf8)
one_report-line mode line first second one (reports_text utf8 report) (reports_text too other) = one line first second report other

-- Lines have one report.
one_report-lines : (mode : Mode) (lines : List (List ℕ)) (first second : List ℕ)
    → ((line rows others : List ℕ) → ReportsLine mode line rows → ReportsLine mode line others → rows ≡ others)
    → ReportsLines mode lines first → ReportsLines mode lines second → first ≡ second
one_report-lines mode lines first second one no_line_left no_line_left = refl
one_report-lines mode lines first second one (line_more report more) (line_more other others) =
    cc (one _ _ _ report other, one_report-lines mode _ _ _ one more others)
