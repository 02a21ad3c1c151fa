-- What is held of all pieces of the line is of its header.
use Rattle.mime_http.proofs.Common.{append-nil, arith, cut, sym, true≢false}
use Rattle.mime_http.proofs.Takes.{line_counted, pieces_of_nothing}
use Rattle.mime_http.proofs.accept.Accept.from_line_counting_bad.Goals as goal

pub returns-in_err-take_line-clause-nothing : goal.returns-in_err-take_line-clause-nothing
returns-in_err-take_line-clause-nothing c = λ holds.
    let none = rw (append-nil (cut c.args.line.now)) at (pieces_of_nothing holds) in
    absurd (true≢false (sym (c.in_err-take_line.ensures.nothing none)))

pub returns-clause-header : goal.returns-clause-header
returns-clause-header c =
    (line_counted _ (omega arith) (rw (c.new-reading.ensures, sym c.reading.view_is) at c.in_ok-take_line.ensures.taken)).0

pub returns-clause-first : goal.returns-clause-first
returns-clause-first c =
    (line_counted _ (omega arith) (rw (c.new-reading.ensures, sym c.reading.view_is) at c.in_ok-take_line.ensures.taken)).1
