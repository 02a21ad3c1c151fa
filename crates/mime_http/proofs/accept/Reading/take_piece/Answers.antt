-- A piece is white space, a media type, or bad.
use Rattle.std.proofs.Common.{rules}
use Rattle.mime_http.proofs.Common.{Explains, subst, sym, ap, arith, as_it_stands, common_steps, length, nil_from_length, trimmed, ◌∙◌}
use Rattle.mime_http.proofs.Around.{blank_from_trimmed, reads_around, utf8_around, utf8_trimmed}
use Rattle.mime_http.proofs.PlainIsHttp.{plain_is_http}
use Rattle.mime_http.proofs.Takes.{takes_bad, takes_blank, takes_range}
use Rattle.mime_http.proofs.accept.Reading.take_piece.Goals as goal

pub returns-then-is_empty-clause-taken : goal.returns-then-is_empty-clause-taken
returns-then-is_empty-clause-taken c = search (takes_blank, blank_from_trimmed, nil_from_length, rules)

pub take_rejected-requires-clause-fault : goal.take_rejected-requires-clause-fault
take_rejected-requires-clause-fault c = subst (Explains (trimmed c.args.piece.now)) (sym c.fault.ensures)
    (rw (c.in-Ok.ensures.cases.0, c.trimmed-entry.ensures) at c.in-Err.ensures.explained)

pub returns-in_default-clause-taken : goal.returns-in_default-clause-taken
returns-in_default-clause-taken c =
    let left = c.trimmed-entry.ensures in
    takes_bad _ _ _ _ _ left (λ none. absurd (grind (arith, common_steps, ap length (left ∙ none))))
    (λ both. c.in_default.ensures.cases.0 (rw left (utf8_trimmed c.args.piece.now both.0))) c.take_bad.ensures

pub returns-in-Ok-from_str-clause-taken : goal.returns-in-Ok-from_str-clause-taken
returns-in-Ok-from_str-clause-taken c =
    let piece = c.args.piece.now in
    let left = c.trimmed-entry.ensures in
    let reads = rw (c.in-Ok.ensures.cases.0, left) at c.in-Ok-from_str.ensures.read in
    takes_range _ _ _ _ _ (utf8_around piece (rw left at c.in-Ok.ensures.cases.1))
    (reads_around piece _ (plain_is_http (trimmed piece) _ reads)) (as_it_stands piece _ reads) c.take.ensures
