-- Before the text stands white space, and perhaps behind it.
use Rattle.mime_http.proofs.Common.{MissingQuote, append_assoc, rules, AreSpaces, Explains, List, [], ap, append-nil, arith, length}
use Rattle.mime_http.proofs.Common.{length-append, nil_from_length, subst, sym, trim_end, trim_start, trimmed, ℕ, ◌+◌}
use Rattle.mime_http.proofs.Common.{◌++◌, ◌-◌, ◌∙◌, ◌≡◌}
use Rattle.mime_http.proofs.{ReadFaults.open_after, Around.split_end, PlainIsHttp.same_byte, PlainIsHttp.same_lack, Around.split_white}
use Rattle.mime_http.proofs.value.same_fault.Goals as goal

-- A value is what is left of it, with white space around it.
around_value : (value : List ℕ) → (before after : List ℕ) × AreSpaces before × (value ≡ before ++ (trimmed value ++ after))
    × (length before + length (trim_start value) ≡ length value) × (length (trimmed value) + length after ≡ length (trim_start value))
around_value value =
    let (before, white, start) = split_white value in
    let (after, space, end) = split_end (trim_start value) in
    let begin : length before + length (trim_start value) ≡ length value =
    omega (arith, ap length start, length-append before (trim_start value)) in
    let last : length (trimmed value) + length after ≡ length (trim_start value) =
    omega (arith, ap length end, length-append (trimmed value) after) in
    (before, after, white, start ∙ ap (λ bytes. before ++ bytes) end, begin, last)

pub overflow_sub-value : goal.overflow_sub-value
overflow_sub-value c =
    let (before, after, white, whole, begin, end) = around_value c.args.value.now in
    omega (arith, begin, ap length c.trim_start-text.ensures)

pub returns-in_ok-pos-in-InvalidToken : goal.returns-in_ok-pos-in-InvalidToken
returns-in_ok-pos-in-InvalidToken c = λ why.
    let value = c.args.value.now in
    let (before, after, white, whole, begin, end) = around_value value in
    let dead = subst (Explains (trimmed value)) c.in-InvalidToken.is why in
    let space = sym c.is_space.ensures ∙ c.if-not-is_space.true in
    let first : length before ≡ length value - length c.trim_start-text.result.now =
    omega (arith, begin, ap length c.trim_start-text.ensures) in
    let is : c.in_ok-pos-in-InvalidToken.pos ≡ length value - length c.trim_start-text.result.now + c.in-InvalidToken.pos =
    search rules in
    rw is (rw (← whole, first) at (same_byte before (trimmed value) after _ _ white dead space c.if-byte-ne59.true))

pub returns-in-MissingQuote : goal.returns-in-MissingQuote
returns-in-MissingQuote c = λ why.
    let value = c.args.value.now in
    let (before, white, first) = split_white value in
    let (after, space, last) = split_end (trim_start value) in
    let same : value ≡ (before ++ trimmed value) ++ after = grind (arith, first, last, append_assoc) in
    let lacks = same_lack before (trimmed value) MissingQuote white (λ is. absurd cc) (λ pos byte is. absurd cc) (search rules) in
    rw (same, c.in-MissingQuote.is) (open_after (before ++ trimmed value) after space lacks)

pub returns-in_default-2 : goal.returns-in_default-2
returns-in_default-2 c = λ why.
    let value = c.args.value.now in
    let (before, after, white, whole, begin, end) = around_value value in
    let left = c.trim_end.ensures ∙ ap trim_end c.trim_start-text.ensures in
    let none : after ≡ [] =
    nil_from_length after (omega (arith, end, ap length left, ap length c.trim_start-text.ensures, c.if-trim_end-text.false)) in
    let same : value ≡ before ++ trimmed value = grind (arith, whole, none, append-nil) in
    rw same (same_lack before (trimmed value) c.args.fault white c.in_default.not-NoMemory c.in_default.not-InvalidToken why)
