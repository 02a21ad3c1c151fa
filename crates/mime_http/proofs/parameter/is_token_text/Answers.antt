-- All bytes are of a token if the run of token bytes ends at the end.
use Rattle.mime_http.proofs.Common.{arith, is_token_byte, nat_tests}
use Rattle.mime_http.proofs.Contents.{whole_run}
use Rattle.mime_http.proofs.parameter.is_token_text.Goals as goal

pub returns-then-not-is_empty : goal.returns-then-not-is_empty
returns-then-not-is_empty c =
    let run = whole_run is_token_byte c.args.text.now in
    grind (arith, nat_tests, run, c.token_end_far.ensures.end, c.as_bytes.ensures.value, c.is_empty.ensures, c.if-not-is_empty.true)
