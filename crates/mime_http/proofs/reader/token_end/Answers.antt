-- The search passes bytes that may occur in a token, and ends there unless another follows.
use Rattle.std.proofs.Common.{arith, inl, inr, length, ◌≡◌, drop}
use Rattle.std.specs.List.{prefix_len}
use Rattle.std.proofs.lemmas.Bool.{cases_lt}
use Rattle.std.proofs.lemmas.List.Sums.{prefix_len-drop_all, prefix_len-drop_no, prefix_len-drop_yes}
use Rattle.mime_http.proofs.Common.{is_token_byte}
use Rattle.mime_http.proofs.ReadAt.{are_token_bytes, run_goes_on}
use Rattle.mime_search.specs.declared.class.TheConstants.{TOKEN_STOPS}
use Rattle.mime_http.proofs.reader.token_end.Goals as goal

pub returns-then-is_token_at-clause-end : goal.returns-then-is_token_at-clause-end
returns-then-is_token_at-clause-end c =
    let at = c.stop_from-at in
    let goes = run_goes_on _ is_token_byte are_token_bytes c.args.value.now c.args.from at.result at.ensures.least
    (at.ensures.passed TOKEN_STOPS c.args.value.now c.requires.start) in
    let token = c.is_token_at.ensures.yes c.if-is_token_at.true in
    omega (arith, goes, c.token_end_far.ensures.end, prefix_len-drop_yes is_token_byte c.args.value.now at.result 0 token.0 token.1)

pub returns-clause-end : goal.returns-clause-end
returns-clause-end c =
    let value = c.args.value.now in
    let at = c.stop_from-at in
    let goes = run_goes_on _ is_token_byte are_token_bytes value c.args.from at.result at.ensures.least
    (at.ensures.passed TOKEN_STOPS value c.requires.start) in
    let ends : prefix_len is_token_byte (drop at.result value) ≡ 0 = elim (cases_lt at.result (length value)) [
      | inl within ↦ prefix_len-drop_no is_token_byte value at.result 0 within (c.is_token_at.ensures.no c.if-is_token_at.false within)
      | inr past ↦ prefix_len-drop_all is_token_byte value at.result past
    ] in
    omega (arith, goes, ends)
