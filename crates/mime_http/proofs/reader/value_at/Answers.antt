-- A token is read, and written as it is.
use Rattle.mime_http.proofs.Common.{append-nil, arith, is_token_byte, refl, slice_range, ◌<◌}
use Rattle.mime_http.proofs.ReadAt.{over_value, run_is, token_part}
use Rattle.mime_http.proofs.reader.value_at.Goals as goal

pub returns : goal.returns
returns c =
    let value = c.args.value.now in
    let begin = c.args.begin in
    let end = c.token_end-end in
    let run = run_is is_token_byte value begin end.result end.ensures.end in
    let some : begin < end.result = omega (arith, run.least, c.if-end-begin.false) in (
      refl,
      λ name. record {
        content = slice_range value begin end.result;
        read = λ parts. over_value parts name value begin end.result some end.ensures.within run;
        written = rw (token_part value begin end.result some end.ensures.within run)
            (append-nil (slice_range value begin end.result));
        least = omega arith;
        apart = omega arith;
        some = run.least;
        most = omega arith;
        within = end.ensures.within;
      },
    )
