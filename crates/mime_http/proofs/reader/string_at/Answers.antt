-- The quote, token bytes and more content are read; without quotes is written what is a token.
use Rattle.std.proofs.Common.{rules}
use Rattle.mime_http.proofs.Common.{IsClosedAt, IsContent, List, answer_at, ap, ap₂, append-nil, arith, false, in_string, in_value}
use Rattle.mime_http.proofs.Common.{is_quoted_text_byte, is_token_byte, is_token, length, list_all-wider, refl, slice_index}
use Rattle.mime_http.proofs.Common.{slice_range, sym, true, [], ℕ, ◌+◌, ◌++◌, ◌<◌, ◌∙◌, ◌∷◌, ◌≡◌}
use Rattle.mime_http.specs.Reader.{Parts}
use Rattle.mime_http.proofs.Contents.{token_byte_text}
use Rattle.mime_http.proofs.ReadAt.{IsRun, content_on, fault_after, no_token_value, one_part, over_byte, over_content, parts_joined, run_is}
use Rattle.mime_http.proofs.ReadAt.{text_content, token_part}
use Rattle.mime_http.proofs.reader.string_at.Goals.{else-begin-plain-via-then-begin-plain+else-plain-close}
use Rattle.mime_http.proofs.reader.string_at.Goals.{else-begin-plain-via-else-begin-plain}
use Rattle.mime_http.proofs.reader.string_at.Goals as goal

-- The quote opens the string.
opens : (parts : Parts) (name value : List ℕ) (quote : ℕ) → quote < length value → slice_index value quote ≡ 34
    → answer_at value (in_value parts name []) quote ≡ answer_at value (in_string parts name []) (quote + 1)
unfolding is_token_byte
opens parts name value quote within is = search (over_byte, rules)

-- Token bytes are content.
run_content : (value : List ℕ) (from plain : ℕ) → IsRun is_token_byte value from plain → IsContent (slice_range value from plain)
run_content value from plain run =
    text_content _ (list_all-wider is_token_byte is_quoted_text_byte token_byte_text (slice_range value from plain) run.all)

-- The string is closed from its begin on if it is so after token bytes.
closed_from : (value : List ℕ) (from plain close : ℕ) → IsRun is_token_byte value from plain → IsClosedAt value plain close
    → IsClosedAt value from close
closed_from value from plain close run closed = search (content_on, run_content, rules)

pub returns-in-Err : goal.returns-in-Err
returns-in-Err c = λ name parts.
    let value = c.args.value.now in
    let quote = c.args.quote in
    let plain = c.token_end-plain in
    let run = run_is is_token_byte value (quote + 1) plain.result plain.ensures.end in
    opens parts name value quote c.requires.within c.requires.quote
    ∙ fault_after value (quote + 1) plain.result c.in-Err.fault run.least plain.ensures.within
    (run_content value (quote + 1) plain.result run) c.in-Err.ensures name [] refl parts

pub returns-then-plain-close : goal.returns-then-plain-close
returns-then-plain-close c =
    let value = c.args.value.now in
    let begin = c.args.quote + 1 in
    let plain = c.token_end-plain in
    let close = c.in-Ok.close in
    let run = run_is is_token_byte value begin plain.result plain.ensures.end in
    let closed = closed_from value begin plain.result close run c.in-Ok.ensures in
    let token = token_part value begin plain.result c.if-begin-plain.true plain.ensures.within run in
    let is : is_token (slice_range value begin close) ≡ true =
    ap (λ n. is_token (slice_range value begin n)) (sym c.if-plain-close.true) ∙ token in (
      refl,
      λ name. record {
        content = slice_range value begin close;
        read = λ parts.
            opens parts name value c.args.quote c.requires.within c.requires.quote ∙ over_content parts name value begin close closed;
        written = rw is (append-nil (slice_range value begin close));
        least = omega arith;
        apart = omega arith;
        some = closed.least;
        most = omega arith;
        within = omega (arith, closed.within);
      },
    )

pub returns : goal.returns
returns c =
    let value = c.args.value.now in
    let quote = c.args.quote in
    let plain = c.token_end-plain in
    let close = c.in-Ok.close in
    let run = run_is is_token_byte value (quote + 1) plain.result plain.ensures.end in
    let closed = closed_from value (quote + 1) plain.result close run c.in-Ok.ensures in
    let content : List ℕ = slice_range value (quote + 1) close in
    let isnt : is_token content ≡ false =
    no_token_value value (quote + 1) plain.result close run c.in-Ok.ensures.least closed.within (elim c.else-begin-plain.branch [
      | else-begin-plain-via-then-begin-plain+else-plain-close w ↦ λ some. w.if-plain-close.false
      | else-begin-plain-via-else-begin-plain w ↦ λ some. absurd (omega (arith, some, w.if-begin-plain.false))
    ]) in
    let first = one_part value quote c.requires.within ∙ ap (λ b. b ∷ []) c.requires.quote in
    let last = one_part value close closed.within ∙ ap (λ b. b ∷ []) closed.quote in
    let joined = parts_joined value quote (quote + 1) (close + 1) (omega arith) (omega (arith, closed.least)) in
    let inner = parts_joined value (quote + 1) close (close + 1) closed.least (omega arith) in (
      refl,
      λ name. record {
        content = content;
        read = λ parts.
            opens parts name value quote c.requires.within c.requires.quote ∙ over_content parts name value (quote + 1) close closed;
        written = rw isnt (sym (joined ∙ ap₂ (λ xs ys. xs ++ ys) first (inner ∙ ap (λ ys. content ++ ys) last)));
        least = omega arith;
        apart = omega arith;
        some = omega (arith, closed.least);
        most = omega arith;
        within = omega (arith, closed.within);
      },
    )
