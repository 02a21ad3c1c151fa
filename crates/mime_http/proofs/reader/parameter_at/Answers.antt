-- A name and an equals sign are read before the value.
use Rattle.mime_http.proofs.Common.{IsParameterAt, List, drop, drop_more, one-add, prefix_len, MissingEqual, after_semicolon, answer_at, ap}
use Rattle.mime_http.proofs.Common.{arith, in_name, in_value, is_token_byte, length, ne_eqb, next, refl, rejected, slice_index, slice_range}
use Rattle.mime_http.proofs.Common.{sym, true, [], ℕ, ◌+◌, ◌++◌, ◌<◌, ◌==◌, ◌∙◌, ◌∷◌, ◌≡◌, MatchResult-weaker}
use Rattle.mime_http.specs.Reader.{Parts}
use Rattle.mime_http.specs.declared.reader.Spans.{Spans}
use Rattle.mime_http.proofs.ReadAt.{IsRun, neither, one_part, over_byte, over_name, parts_joined, run_end, run_is, stuck}
use Rattle.mime_http.proofs.reader.parameter_at.Goals as goal

-- A name begins with a token byte, and ends where the run of them after it does.
name_run : (value : List ℕ) (name equals : ℕ) → name < length value → is_token_byte (slice_index value name) ≡ true
    → equals ≡ run_end is_token_byte value (name + 1) → (name < equals) × IsRun is_token_byte value name equals
name_run value name equals within is end =
    let rest = prefix_len is_token_byte (drop (name + 1) value) in
    let same : equals ≡ run_end is_token_byte value name = grind (arith, drop_more, one-add rest) in
    (omega (arith, end), run_is is_token_byte value name equals same)

-- A name is read, and the equals sign after it.
to_value : (parts : Parts) (value : List ℕ) (name equals : ℕ) → name < equals → equals < length value
    → slice_index value equals ≡ 61 → IsRun is_token_byte value name equals
    → answer_at value (after_semicolon parts) name ≡ answer_at value (in_value parts (slice_range value name equals) []) (equals + 1)
unfolding is_token_byte
to_value parts value name equals some within is run =
    let text : List ℕ = slice_range value name equals in
    over_name parts value name equals some (omega (arith, within)) run
    ∙ over_byte value equals (in_name parts text) (in_value parts text []) within (ap (next (in_name parts text)) is)

pub returns-then-not-is_at : goal.returns-then-not-is_at
returns-then-not-is_at c = λ parts.
    let value = c.args.value.now in
    let equals = c.token_end-equals in
    let (some, run) = name_run value c.args.name equals.result c.requires.within c.requires.token equals.ensures.end in
    over_name parts value c.args.name equals.result some equals.ensures.within run
    ∙ stuck value equals.result (in_name parts (slice_range value c.args.name equals.result)) MissingEqual equals.ensures.within refl
    (λ more. neither (is_token_byte (slice_index value equals.result)) (slice_index value equals.result == 61) _ _ (run.stops more)
    (ne_eqb (slice_index value equals.result) 61 (c.is_at.ensures.no c.if-not-is_at.true more))) ∙ ap rejected (sym c.fault_at.ensures)

-- A name, the sign, and a value are a parameter.
parameter_is : (value : List ℕ) (name equals : ℕ) (spans : Spans) → name < equals → equals < length value
    → slice_index value equals ≡ 61 → IsRun is_token_byte value name equals → spans.first ≡ equals + 1
    → IsParameterAt value (slice_range value name equals) (λ parts. in_value parts (slice_range value name equals) []) (equals + 1) spans
    → (text : List ℕ) × (text ++ (61 ∷ []) ≡ slice_range value name spans.first)
    × IsParameterAt value text after_semicolon name spans
parameter_is value name equals spans some within is run first at =
    let text : List ℕ = slice_range value name equals in
    let sign = one_part value equals within ∙ ap (λ b. b ∷ []) is in (
      text,
      sym (ap (slice_range value name) first ∙ parts_joined value name equals (equals + 1) run.least (omega arith)
          ∙ ap (λ xs. text ++ xs) sign),
      record {
        content = at.content;
        read = λ parts. to_value parts value name equals some within is run ∙ at.read parts;
        written = at.written;
        least = omega (arith, first, some);
        apart = at.apart;
        some = at.some;
        most = at.most;
        within = at.within;
      },
    )

pub returns : goal.returns
returns c =
    let value = c.args.value.now in
    let name = c.args.name in
    let equals = c.token_end-equals in
    let (some, run) = name_run value name equals.result c.requires.within c.requires.token equals.ensures.end in
    let sign = c.is_at.ensures.yes c.if-not-is_at.false in
    MatchResult-weaker c.value_at.result c.value_at.ensures
    (λ spans at.
    parameter_is value name equals.result spans some sign.0 sign.1 run at.0 (at.1 (slice_range value name equals.result)))
    (λ fault is parts.
    to_value parts value name equals.result some sign.0 sign.1 run ∙ is (slice_range value name equals.result) parts)
