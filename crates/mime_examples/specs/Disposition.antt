-- What the Content-Disposition of a part of a form says (RFC 7578, 4.2; RFC 2183, 2). Its value is a token and parameters, so with `x/`
-- before it it is a media type as HTTP writes it, and nothing else is.
use Rattle.std.specs.Prelude.{◌≡◌, ◌==◌, ◌&&◌, ◌||◌, if◌then◌else◌, ℕ, Bool, List, [], ◌∷◌, ◌++◌, Option, Some, codes, option_map}
use Rattle.std.specs.Str.{IsUtf8}
use Rattle.mime.specs.Values.{MediaType}
use Rattle.mime.specs.Names.{NameIs}
use Rattle.mime.specs.Items.{items_of, IsFirstAccepted}
use Rattle.mime_http.specs.HttpMediaType.{HttpReads}
use Rattle.mime.specs.Bytes.{backslash_byte, quote_byte}

-- what a name means: a backslash escapes a quote or a backslash, and stands for itself before any other byte, since browsers and curl write
-- it so (HTML, "multipart/form-data encoding algorithm")
abbrev pub unescaped_name : List ℕ → List ℕ
unescaped_name [] = []
unescaped_name (b ∷ []) = b ∷ []
unescaped_name (b ∷ c ∷ bytes) =
    if b == backslash_byte && (c == quote_byte || c == backslash_byte) then c ∷ unescaped_name bytes else b ∷ unescaped_name (c ∷ bytes)

-- what the first parameter of this name means, if there is one
abbrev pub FirstMeans : List (List ℕ × List ℕ) → List ℕ → Option (List ℕ) → Type 0
FirstMeans pairs name meaning =
    (found : Option (List ℕ × Bool)) × IsFirstAccepted (λ text flag. NameIs text flag name) (items_of pairs) found
    × (option_map (λ value. unescaped_name value.0) found ≡ meaning)

-- the value is a disposition `form-data` of a field with this name, and of a file with this name, if there is one
pub record IsDisposition (value name : List ℕ) (file_name : Option (List ℕ)) : Type 0 where
  pub media : MediaType
  pub utf8 : IsUtf8 (codes "x/" ++ value)
  pub read : HttpReads (codes "x/" ++ value) media
  pub form_data : media.essence ≡ codes "x/form-data"
  pub field : FirstMeans media.pairs (codes "name") (Some name)
  pub file : FirstMeans media.pairs (codes "filename") file_name
