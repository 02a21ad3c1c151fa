-- Text and pairs go on the content, and another byte, or the end, is the string's fault.
use Rattle.std.proofs.Common.{rules}
use Rattle.std.proofs.lemmas.Grind.{common_steps}
use Rattle.mime_http.proofs.Common.{IsContent, List, MissingQuote, Parts, answer_at, ap, arith, awaits_after, awaits_after-append, false}
use Rattle.mime_http.proofs.Common.{fault_at, in_string, is_quoted_byte, is_quoted_text_byte, length, list_all, slice_range, nat_tests}
use Rattle.mime_http.proofs.Common.{next, no_byte, rejected, slice_index, sym, true, ℕ, ◌+◌, ◌<◌, ◌≤◌, ◌∙◌, ◌≡◌}
use Rattle.mime_http.proofs.ReadAt.{at_byte, at_end, content_on, fault_after, no_part, goes_nowhere, one_part, over_byte, pair_content}
use Rattle.mime_http.proofs.ReadAt.{stuck, text_after, text_content}
use Rattle.mime_http.proofs.reader.string_end.Goals.{then-paired-value-via-then-paired-value}
use Rattle.mime_http.proofs.reader.string_end.Goals.{then-paired-value-via-else-paired-value+then-not-is_quoted_byte}
use Rattle.mime_http.proofs.reader.string_end.Goals as goal

-- A byte that a backslash can't pair is the string's fault, and so is the end.
unpaired : (value : List ℕ) (at : ℕ) (parts : Parts) (name content : List ℕ) → at < length value → slice_index value at ≡ 92
    → (at + 1 < length value → is_quoted_byte (slice_index value (at + 1)) ≡ false) → awaits_after false content ≡ false
    → answer_at value (in_string parts name content) at ≡ rejected (fault_at value (at + 1) MissingQuote)
unfolding is_quoted_byte
unpaired value at parts name content within first isnt none =
    grind (arith, common_steps, awaits_after, awaits_after-append, over_byte, in_string, next, stuck, MissingQuote, nat_tests)

pub loop-at-init : goal.loop-at-init
loop-at-init c = search (IsContent, no_part, no_byte, rules)

pub returns-then-paired-value : goal.returns-then-paired-value
returns-then-paired-value c =
    let value = c.args.value.now in
    let at = c.loop-at.at in
    let keeps = c.loop-at.invariant in
    let isnt : at + 1 < length value → is_quoted_byte (slice_index value (at + 1)) ≡ false = elim c.then-paired-value.branch [
      | then-paired-value-via-then-paired-value w ↦ λ more. absurd (omega (arith, more, w.if-paired-value.true))
      | then-paired-value-via-else-paired-value+then-not-is_quoted_byte w ↦ λ more.
          sym w.is_quoted_byte.ensures ∙ w.if-not-is_quoted_byte.true
    ] in
    fault_after value c.args.from at _ keeps.least keeps.within keeps.content (λ name content none parts.
    unpaired value at parts name content c.loop-at-test.true c.if-byte-eq92.true isnt none ∙ ap rejected (sym c.fault_at.ensures))

pub loop-at-preserved-then-byte-eq92 : goal.loop-at-preserved-then-byte-eq92
loop-at-preserved-then-byte-eq92 c = search (pair_content, content_on, rules)

-- Quoted text goes on the content.
text_goes_on : (value : List ℕ) (from at to : ℕ) → from ≤ at → at < to → IsContent (slice_range value from at)
    → list_all is_quoted_text_byte (slice_range value at to) ≡ true → IsContent (slice_range value from to)
text_goes_on value from at to least more content text = search (content_on, text_content, rules)

pub loop-at-preserved-then-at-from-eq0 : goal.loop-at-preserved-then-at-from-eq0
loop-at-preserved-then-at-from-eq0 c = search (text_after, text_goes_on, rules)

pub loop-at-preserved : goal.loop-at-preserved
loop-at-preserved c = search (one_part, text_goes_on, rules)

pub returns-else-is_quoted_text_byte : goal.returns-else-is_quoted_text_byte
returns-else-is_quoted_text_byte c =
    let value = c.args.value.now in
    let at = c.loop-at.at in
    let keeps = c.loop-at.invariant in
    fault_after value c.args.from at _ keeps.least keeps.within keeps.content (λ name content none parts.
    at_byte value at (in_string parts name content) c.loop-at-test.true
    (goes_nowhere parts name content _ none (sym c.is_quoted_text_byte.ensures ∙ c.if-is_quoted_text_byte.false) c.if-byte-eq34.false
    c.if-byte-eq92.false))

pub returns : goal.returns
returns c = search (fault_after, at_end, rules)
