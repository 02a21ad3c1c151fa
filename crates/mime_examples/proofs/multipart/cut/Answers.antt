-- The delimiter that was found is the first, and if none was, there is none.
use Rattle.std.proofs.Common.{◌≤◌, ◌++◌, take, length, sym, subst, arith, ⊎_elim}
use Rattle.std.proofs.{lemmas.Bool.cases_lt, lemmas.List.length-take-le}
use Rattle.mime_examples.specs.Multipart.{EndsLine}
use Rattle.mime_examples.proofs.Places.{taken, dropped, begins_inside, divided}
use Rattle.mime_examples.proofs.multipart.cut.Goals as goal

pub returns-in-Some-clause-cut : goal.returns-in-Some-clause-cut
returns-in-Some-clause-cut c =
    let body = c.args.body.now in
    let at = c.loop-at.at in
    let delimiter = c.args.delimiter.now in
    record {
      whole = divided body at (delimiter ++ c.in-Some.after.now) c.in-Some.ensures.2;
      line = c.in-Some.ensures.0;
      ends = c.in-Some.ensures.1;
      first = λ earlier later line ends is.
          let long : length (take at body) ≤ at = omega (arith, length-take-le at body (omega arith)) in
          ⊎_elim (λ less. absurd (c.loop-at.invariant (length earlier) later less
          (subst EndsLine (sym (taken earlier (delimiter ++ later) is)) line) ends (dropped earlier (delimiter ++ later) is)))
          (λ more. omega (arith, more, long)) (cases_lt (length earlier) at);
    }

pub returns-clause-none : goal.returns-clause-none
returns-clause-none c = λ _ some before after line ends is.
    let delimiter = c.args.delimiter.now in
    let inside = begins_inside c.args.body.now before delimiter after some is in
    c.loop-at.invariant (length before) after (omega (arith, inside))
    (subst EndsLine (sym (taken before (delimiter ++ after) is)) line) ends (dropped before (delimiter ++ after) is)
