-- What was stripped stands at the position, if a line begins there.
use Rattle.std.proofs.Common.{◌≡◌, ◌≢◌, ◌∙◌, ◌-◌, ◌<◌, ◌≤◌, ◌++◌, [], ℕ, List, Bor, Option, Some, None, take, drop, length, get_or, sym}
use Rattle.std.proofs.Common.{refl, arith}
use Rattle.std.specs.Prelude.{MatchOption, slice_get}
use Rattle.std.proofs.lemmas.Bool.Decides.{Decides-eqb}
use Rattle.std.proofs.lemmas.Grind.{common_steps}
use Rattle.std.proofs.lemmas.List.{length-take-le, take_rest}
use Rattle.std.proofs.lemmas.Option.{slice_get-get_or}
use Rattle.std.proofs.lemmas.Slice.Eq.{strip_prefix_is}
use Rattle.mime_examples.specs.Multipart.{EndsLine}
use Rattle.mime_examples.proofs.multipart.after_delimiter.Goals as goal
use Rattle.mime_examples.proofs.multipart.after_delimiter.Goals.{else-at-gt0-via-then-at-gt0+else-body-at-ne10, else-at-gt0-via-else-at-gt0}

-- What is stripped at the start of a line is what follows the delimiter there.
at_line : (text rest delimiter : List ℕ) (Line : Type 0) (found : Option (Bor (List ℕ))) → rest ≡ text → Line
    → MatchOption found ((after : List ℕ) → rest ≢ delimiter ++ after) (λ after. rest ≡ delimiter ++ after.now)
    → MatchOption found ((after : List ℕ) → Line
    → text ≢ delimiter ++ after) (λ after. Line × (text ≡ delimiter ++ after.now))
at_line text rest delimiter Line None same line none = λ after _ is. none after (same ∙ is)
at_line text rest delimiter Line (Some after) same line is = (line, sym same ∙ is)

-- A line begins after a line feed.
after_feed : (body : List ℕ) (at : ℕ) → at ≤ length body → 0 < at → get_or body (at - 1) 0 ≡ 10
    → slice_get (take at body) (length (take at body) - 1) ≡ Some 10
after_feed body at within some is = grind (arith, common_steps, length-take-le, slice_get-get_or)

-- Nothing stands before the start of a body.
none_before_start : (body : List ℕ) (at : ℕ) → at ≤ 0 → take at body ≡ []
none_before_start body at none = let is : at ≡ 0 = omega arith in rw is refl

pub returns : goal.returns
returns c =
    let body = c.args.body.now in
    let at = c.args.at in
    let rest = take (length body - at) (drop at body) in
    let line : EndsLine (take at body) = elim c.else-at-gt0.branch [
      | else-at-gt0-via-then-at-gt0+else-body-at-ne10 w ↦ λ _. after_feed body at c.requires w.if-at-gt0.true w.if-body-at-ne10.false
      | else-at-gt0-via-else-at-gt0 w ↦ λ some. absurd (some (none_before_start body at w.if-at-gt0.false))
    ] in
    at_line (drop at body) rest c.args.delimiter.now (EndsLine (take at body)) c.strip_prefix.result (take_rest body at) line
    (strip_prefix_is Decides-eqb rest c.args.delimiter.now c.strip_prefix.result c.strip_prefix.ensures.cases)
