-- Each answer is what it says.
use Rattle.std.proofs.Common.{rules, is_some, ◌≡◌, ◌∙◌, ℕ, List, [], ◌∷◌, ap, sym, subst, arith}
use Rattle.std.proofs.lemmas.Bool.{true≢false}
use Rattle.mime.specs.{Grammar.IsToken, HeaderLaws.AreHeaderBytes, Values.MediaType, Values.Reads}
use Rattle.mime_c.specs.Strings.{ComeBack}
use Rattle.mime_c.specs.Answers.{has_room, has_no_room, has_media, fails}
use Rattle.mime_c.specs.ParameterAnswers.{CanBeParameter, set_parameter, is_set, isnt_parameter, set_has_no_memory}
use Rattle.mime_c.proofs.ParameterRoom.{set_fits, set_comes_back}
use Rattle.mime_c.proofs.parameter.mime_set_parameter.Goals as goal

-- A media type that was made is the one with the parameter.
made_is : (media : MediaType) {made : MediaType} {name value its_name its_value : List ℕ} → name ≡ its_name → value ≡ its_value
    → made ≡ set_parameter media name value → made ≡ set_parameter media its_name its_value
made_is media {made} {name} {value} {its_name} named valued is = search rules

pub returns-then-most-out : goal.returns-then-most-out
returns-then-most-out c = has_no_room (omega (arith, c.if-most-out.true))

pub returns-in-Err : goal.returns-in-Err
returns-in-Err c = rw c.number_of_error.ensures (has_room _ _ (omega (arith, c.if-most-out.false)) (fails _ c.in-Err.ensures.explained))

pub returns-in_default : goal.returns-in_default
returns-in_default c =
    let http = c.in-Ok.ensures.http in
    has_room _ _ (omega (arith, c.if-most-out.false)) (has_media _ _ _ (http.0, http.1, c.in-Ok.ensures.kept)
    (isnt_parameter (λ is. c.in_default.ensures.cases.0 is.name_utf8)))

pub returns-in_default-text_of : goal.returns-in_default-text_of
returns-in_default-text_of c =
    let http = c.in-Ok.ensures.http in
    has_room _ _ (omega (arith, c.if-most-out.false)) (has_media _ _ _ (http.0, http.1, c.in-Ok.ensures.kept)
    (isnt_parameter (λ is. c.in_default-text_of.ensures.cases.0 is.value_utf8)))

pub put_string-requires : goal.put_string-requires
put_string-requires c = search (made_is, set_fits, rules)

pub returns-in-Ok-Some : goal.returns-in-Ok-Some
returns-in-Ok-Some c =
    let http = c.in-Ok.ensures.http in
    let media = c.in-Ok.mime.media in
    let name = c.in-Ok-text_of.ensures.cases in
    let value = c.in-Ok-text_of-2.ensures.cases in
    let both = c.in-Ok-Some.ensures.exact.0 (ap is_some c.in-Ok-Some.field-0-is) in
    let made : c.in-Ok-Some.made.media ≡ set_parameter media c.in-Ok-text_of.name.now c.in-Ok-text_of-2.value.now = search rules in
    let is : c.in-Ok-Some.made.media ≡ set_parameter media c.args.name.now c.args.value.now = made_is media name.0 value.0 made in
    let text = c.as_bytes.ensures.value ∙ c.as_str.ensures.text in
    let parameter : CanBeParameter c.args.name.now c.args.value.now = record {
      name_utf8 = name.1;
      value_utf8 = value.1;
      named = subst IsToken name.0 both.0;
      safe = subst AreHeaderBytes value.0 both.1;
    } in
    let reads : Reads c.in-Ok-Some.made.media.kept c.in-Ok-Some.made.media = subst
    (λ it. Reads it c.in-Ok-Some.made.media) c.as_str.ensures.text c.as_str.ensures.reads in
    let back = set_comes_back c.in-Ok-Some.made.media reads in
    rw (c.put_string.ensures.bytes, c.put_string.ensures.size, text, is)
    (has_room _ _ (omega (arith, c.if-most-out.false)) (has_media media _ _ (http.0, http.1, c.in-Ok.ensures.kept)
    (is_set parameter (subst (λ (it : MediaType). ComeBack (it.kept ∷ [])) is back))))

pub returns-in-Ok-None : goal.returns-in-Ok-None
returns-in-Ok-None c =
    let http = c.in-Ok.ensures.http in
    let name = c.in-Ok-text_of.ensures.cases in
    let value = c.in-Ok-text_of-2.ensures.cases in
    has_room _ _ (omega (arith, c.if-most-out.false)) (has_media _ _ _ (http.0, http.1, c.in-Ok.ensures.kept) (isnt_parameter (λ is.
    let some = c.in-Ok-None.ensures.exact.1 (subst IsToken (sym name.0) is.named, subst AreHeaderBytes (sym value.0) is.safe) in
    absurd (true≢false (sym some ∙ ap is_some c.in-Ok-None.field-0-is)))))

pub returns : goal.returns
returns c =
    let http = c.in-Ok.ensures.http in
    has_room _ _ (omega (arith, c.if-most-out.false)) (has_media _ _ _ (http.0, http.1, c.in-Ok.ensures.kept) set_has_no_memory)
