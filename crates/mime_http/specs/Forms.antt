-- How a value is written: with quotes and backslashes, or without.
use Rattle.std.specs.Prelude.{ℕ, Bool, List, [], ◌∷◌, ◌++◌, ◌||◌, ◌==◌, not, if◌then◌else◌, codes}
use Rattle.std.specs.List.{list_all}
use Rattle.mime.specs.Bytes.{is_quoted_text_byte, equals_byte, quote_byte, backslash_byte}
use Rattle.mime.specs.Grammar.{is_token}
use Rattle.mime_http.specs.Written.{escaped}
use Rattle.mime_http.specs.declared.quoted.Form.{Form}
use Rattle.mime_http.specs.declared.quoted.Form.TheVariants.{Token, Quoted, Escaped}

-- whether a byte of a quoted string needs no backslash
abbrev pub is_plain : ℕ → Bool
is_plain b = not (b == quote_byte || b == backslash_byte)

-- how a value is written that a quoted string can mean
abbrev pub form_of : List ℕ → Form
form_of value = if is_token value then Token else (if list_all is_quoted_text_byte value then Quoted else Escaped)

-- what stands on both sides of a value, and the value between
abbrev pub marks : Form → List ℕ
marks Token = []
marks form = quote_byte ∷ []

abbrev pub content : Form → List ℕ → List ℕ
content Escaped value = escaped value
content form value = value

-- a parameter in this form after a semicolon and a space
abbrev pub text_in : Form → List ℕ → List ℕ → List ℕ
text_in form name value = codes "; " ++ (name ++ (equals_byte ∷ (marks form ++ (content form value ++ marks form))))
