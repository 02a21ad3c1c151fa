-- What is added and what is left to add make up the rows.
use Rattle.std.proofs.Common.{◌≡◌, ◌++◌, string_bytes}
use Rattle.mime_lines.proofs.Rows.{given_rows}
use Rattle.mime_lines.proofs.report.push_params.Given as goal

abbrev pub invariant-loop-name : goal.invariant-loop-name
invariant-loop-name l =
    string_bytes l.report ++ given_rows l.name-iterator ≡ string_bytes l.initial.report ++ given_rows l.initial.name-iterator
