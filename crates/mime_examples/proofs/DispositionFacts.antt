-- Values of Content-Disposition for which the words of the recipe hold, and others for which they don't.
use Rattle.std.proofs.Common.{rules, ◌≡◌, ◌∙◌, ◌++◌, ◌∷◌, [], ℕ, List, Option, Some, None, false, length, map, length-append, refl, sym, ap}
use Rattle.std.proofs.Common.{arith, codes}
use Rattle.std.specs.{Option.option_map, Str.IsUtf8}
use Rattle.std.proofs.lemmas.Option.{same_Some, none-some}
use Rattle.mime.specs.{Bytes.is_token_byte, Bytes.is_quoted_byte, Values.MediaType}
use Rattle.mime.proofs.HandedOut.{IsContent-taken, length-lowered}
use Rattle.mime_http.specs.HttpMediaType.{HttpReads, with_token, with_string, no_more, semicolon_and}
use Rattle.mime_examples.specs.Disposition.{FirstMeans, IsDisposition, unescaped_name}

-- A backslash before a quote or a backslash escapes it, and before another byte, or at the end, it stands for itself.
names_meant :
    map unescaped_name (codes "a\\\"b\\\\c" ∷ codes "C:\\tmp\\x.c" ∷ codes "\\\\\\x\\" ∷ [])
    ≡ codes "a\"b\\c" ∷ codes "C:\\tmp\\x.c" ∷ codes "\\\\x\\" ∷ []
names_meant = refl

-- These are a field's name with a quote in it, and a file's name.
abbrev pairs : List (List ℕ × List ℕ)
pairs = (codes "name", codes "a\\\"b") ∷ (codes "filename", codes "c") ∷ []

-- A parameter is found by its name in any case, and none by another name.
meanings :
    FirstMeans pairs (codes "name") (Some (codes "a\"b")) × FirstMeans pairs (codes "FILENAME") (Some (codes "c"))
    × FirstMeans pairs (codes "nam") None
meanings = (
  (Some (codes "a\\\"b", false), ((λ _. refl), (λ other. absurd (other refl))), refl),
  (
    Some (codes "c", false),
    ((λ same. absurd (omega (arith, ap length same))), λ _. ((λ _. refl), (λ other. absurd (other refl)))),
    refl,
  ),
  (None, ((λ same. absurd (omega (arith, ap length same))), λ _. ((λ same. absurd (omega (arith, ap length same))), λ _. refl)), refl),
)

-- The name is found, and means this.
meant : (meaning : Option (List ℕ)) → FirstMeans pairs (codes "name") meaning → Some (codes "a\"b") ≡ meaning
meant meaning is = sym (ap (option_map (λ value. unescaped_name value.0)) (is.1.0 refl)) ∙ is.2

-- The name isn't missing, and doesn't mean its backslash.
no_other_meaning : ¬ (FirstMeans pairs (codes "name") None) × ¬ (FirstMeans pairs (codes "name") (Some (codes "a\\\"b")))
no_other_meaning = search (none-some, meant, same_Some, rules)

-- This is a disposition with both names.
media : MediaType
media = record { essence = codes "x/form-data"; slash = 1; plus = None; pairs = pairs; kept = [] }

-- HTTP reads the text as this disposition.
read : HttpReads (codes "x/form-data; name=\"a\\\"b\";FileName=c") media
unfolding media is_token_byte is_quoted_byte
read = record {
  before = [];
  top = codes "x";
  sub = codes "form-data";
  parameters = codes "; name=\"a\\\"b\";FileName=c";
  after = [];
  spelled = refl;
  white_before = refl;
  is_top = refl;
  is_sub = refl;
  are_parameters =
      semicolon_and [] (codes " ") (codes "name=\"a\\\"b\"") (codes ";FileName=c") (codes "name", codes "a\\\"b") _ refl refl
      (with_string (codes "name") (codes "a\\\"b") refl (IsContent-taken (codes "a\\\"b") refl refl))
      (semicolon_and [] [] (codes "FileName=c") [] (codes "filename", codes "c") [] refl refl
      (with_token (codes "FileName") (codes "c") refl refl) no_more);
  white_after = refl;
  essence = refl;
  slash = refl;
  plus = refl;
}

-- The text is a form's disposition, with what both names mean.
disposition : IsUtf8 (codes "x/form-data; name=\"a\\\"b\";FileName=c")
    → IsDisposition (codes "form-data; name=\"a\\\"b\";FileName=c") (codes "a\"b") (Some (codes "c"))
unfolding media
disposition utf8 = record {
  media = media;
  utf8 = utf8;
  read = read;
  form_data = refl;
  field = meanings.0;
  file = (
    Some (codes "c", false),
    ((λ same. absurd (omega (arith, ap length same))), λ _. ((λ _. refl), (λ other. absurd (other refl)))),
    refl,
  );
}

-- Another disposition isn't a form's.
not_a_forms : (name : List ℕ) (file_name : Option (List ℕ)) → ¬ (IsDisposition (codes "file") name file_name)
not_a_forms name file_name is =
    let said = simp (length-append, length-lowered) at (ap length (sym is.form_data ∙ is.read.essence)) in
    let spelled = simp length-append at (ap length is.read.spelled) in
    omega (arith, said, spelled)

-- Bytes that aren't UTF-8 are no disposition.
not_utf8 : ¬ (IsUtf8 (codes "x/" ++ (255 ∷ []))) → (name : List ℕ) (file_name : Option (List ℕ))
    → ¬ (IsDisposition (255 ∷ []) name file_name)
not_utf8 isnt name file_name is = isnt is.utf8
