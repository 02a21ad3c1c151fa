-- White space, a token, a slash and another token are read one after the other.
use Rattle.mime_http.proofs.Common.{List, MissingSlash, MissingSubtype, None, Some, answer_at, answer_of, ap, arith, before_type, drop}
use Rattle.mime_http.proofs.Common.{if◌then◌else◌, in_subtype, in_type, is_space, is_token_byte, length, ne_eqb, next, refl, rejected}
use Rattle.mime_http.proofs.Common.{slice_index, slice_range, sym, [], ℕ, ◌+◌, ◌++◌, ◌<◌, ◌==◌, ◌∙◌, ◌∷◌, ◌≡◌, ◌≤◌}
use Rattle.mime_http.proofs.ReadAt.{IsRun, neither, one_part, over, over_byte, over_subtype, over_white_at, parts_joined, run_is, stuck}
use Rattle.mime_http.proofs.ReadAt.{token_part}
use Rattle.mime_http.proofs.Runs.{keeps_before, type_begins}
use Rattle.mime_http.proofs.reader.essence.Goals as goal

-- Reading goes on over white space and the type up to the slash.
to_slash : (value : List ℕ) (top slash : ℕ) → IsRun is_space value 0 top → top < slash → slash ≤ length value
    → IsRun is_token_byte value top slash → answer_of value ≡ answer_at value (in_type (slice_range value top slash)) slash
to_slash value top slash white some within run =
    over_white_at before_type keeps_before value 0 top white (omega (arith, some, within))
    ∙ over value top slash before_type (in_type (slice_range value top slash)) run.least within
    (type_begins _ (token_part value top slash some within run) top (drop slash value))

-- Reading goes on over the slash.
over_slash : (value top : List ℕ) (slash : ℕ) → slash < length value → slice_index value slash ≡ 47
    → answer_at value (in_type top) slash ≡ answer_at value (in_subtype top []) (slash + 1)
unfolding is_token_byte
over_slash value top slash within is = over_byte value slash (in_type top) (in_subtype top []) within (ap (next (in_type top)) is)

pub returns-then-slash-top : goal.returns-then-slash-top
returns-then-slash-top c =
    let value = c.args.value.now in
    let top = c.spaces_end-top in
    let white = run_is is_space value 0 top.result top.ensures.end in
    let run = run_is is_token_byte value top.result c.token_end-slash.result c.token_end-slash.ensures.end in
    over_white_at before_type keeps_before value 0 top.result white top.ensures.within
    ∙ stuck value top.result before_type MissingSlash top.ensures.within refl
    (λ more. neither (is_token_byte (slice_index value top.result)) (is_space (slice_index value top.result)) _ _
    (rw c.if-slash-top.true at run.stops more) (white.stops more)) ∙ ap rejected (sym c.fault_at.ensures)

pub returns-then-not-is_at : goal.returns-then-not-is_at
returns-then-not-is_at c =
    let value = c.args.value.now in
    let top = c.spaces_end-top in
    let slash = c.token_end-slash in
    let white = run_is is_space value 0 top.result top.ensures.end in
    let run = run_is is_token_byte value top.result slash.result slash.ensures.end in
    let token : List ℕ = slice_range value top.result slash.result in
    to_slash value top.result slash.result white (omega (arith, run.least, c.if-slash-top.false)) slash.ensures.within run
    ∙ stuck value slash.result (in_type token) MissingSlash slash.ensures.within refl
    (λ more. neither (is_token_byte (slice_index value slash.result)) (slice_index value slash.result == 47) _ _ (run.stops more)
    (ne_eqb (slice_index value slash.result) 47 (c.is_at.ensures.no c.if-not-is_at.true more)))
    ∙ ap rejected (sym c.fault_at-then-not-is_at.ensures)

pub returns-then-end-sub : goal.returns-then-end-sub
returns-then-end-sub c =
    let value = c.args.value.now in
    let top = c.spaces_end-top in
    let slash = c.token_end-slash in
    let white = run_is is_space value 0 top.result top.ensures.end in
    let run = run_is is_token_byte value top.result slash.result slash.ensures.end in
    let none = run_is is_token_byte value (slash.result + 1) c.token_end-end.result c.token_end-end.ensures.end in
    let token : List ℕ = slice_range value top.result slash.result in
    let there = c.is_at.ensures.yes c.if-not-is_at.false in
    to_slash value top.result slash.result white (omega (arith, run.least, c.if-slash-top.false)) slash.ensures.within run
    ∙ over_slash value token slash.result there.0 there.1
    ∙ stuck value (slash.result + 1) (in_subtype token []) MissingSubtype (omega (arith, there.0)) refl
    (λ more. ap (λ t. if t then Some (in_subtype token (slice_index value (slash.result + 1) ∷ [])) else None)
    (rw c.if-end-sub.true at none.stops more)) ∙ ap rejected (sym c.fault_at-then-end-sub.ensures)

pub returns : goal.returns
returns c =
    let value = c.args.value.now in
    let top = c.spaces_end-top.result in
    let slash = c.token_end-slash.result in
    let end = c.token_end-end.result in
    let white = run_is is_space value 0 top c.spaces_end-top.ensures.end in
    let run = run_is is_token_byte value top slash c.token_end-slash.ensures.end in
    let sub = run_is is_token_byte value (slash + 1) end c.token_end-end.ensures.end in
    let token : List ℕ = slice_range value top slash in
    let there = c.is_at.ensures.yes c.if-not-is_at.false in
    let byte = one_part value slash there.0 ∙ ap (λ b. b ∷ []) there.1 in
    record {
      top = token;
      sub = slice_range value (slash + 1) end;
      read = to_slash value top slash white (omega (arith, run.least, c.if-slash-top.false)) c.token_end-slash.ensures.within run
          ∙ over_slash value token slash there.0 there.1
          ∙ over_subtype value token (slash + 1) end (omega (arith, sub.least, c.if-end-sub.false)) c.token_end-end.ensures.within sub;
      written = sym (parts_joined value top slash end run.least (omega (arith, sub.least))
          ∙ ap (λ xs. token ++ xs) (parts_joined value slash (slash + 1) end (omega arith) sub.least
          ∙ ap (λ xs. xs ++ slice_range value (slash + 1) end) byte));
      least = omega (arith, run.least, sub.least);
      within = c.token_end-end.ensures.within;
    }
