-- A parameter written into a media type, and how a header then holds it (RFC 9110, 5.6.4, 5.6.6 and 8.3.1).
use Rattle.std.specs.Prelude.{◌≡◌, ℕ, List, [], ◌∷◌, ◌++◌, flat_map, filter, not, if◌then◌else◌, ◌==◌, ◌||◌, codes}
use Rattle.std.specs.Str.{bytes_eq}
use Rattle.mime.specs.Bytes.{equals_byte, quote_byte, backslash_byte}
use Rattle.mime.specs.Grammar.{is_token}
use Rattle.mime.specs.Values.{MediaType, lowered, lowered_value}
use Rattle.mime_http.specs.Unescaped.{unescaped}

-- the content of a quoted string that means these bytes: a backslash before each quote and each backslash
abbrev pub escaped : List ℕ → List ℕ
escaped bytes = flat_map (λ b. if b == quote_byte || b == backslash_byte then backslash_byte ∷ b ∷ [] else b ∷ []) bytes

-- what is written on both sides of a value: nothing if it is a token, else a quote
abbrev pub quote_of : List ℕ → List ℕ
quote_of value = if is_token value then [] else quote_byte ∷ []

-- a parameter after a semicolon and a space, and one after the other
abbrev pub text_of_pair : List ℕ × List ℕ → List ℕ
text_of_pair (name, value) = codes "; " ++ (name ++ (equals_byte ∷ (quote_of value ++ (value ++ quote_of value))))

abbrev pub text_of_pairs : List (List ℕ × List ℕ) → List ℕ
text_of_pairs pairs = flat_map text_of_pair pairs

-- the pairs of a media type whose names differ from this one, ignoring ASCII case
abbrev pub others : List ℕ → List (List ℕ × List ℕ) → List (List ℕ × List ℕ)
others name pairs = filter (λ pair. not (bytes_eq (lowered pair.0) (lowered name))) pairs

-- the media type with these pairs in place of its own
abbrev pub with_pairs : MediaType → List (List ℕ × List ℕ) → MediaType
with_pairs media pairs = record media { pairs = pairs; kept = media.essence ++ text_of_pairs pairs }

-- the media type with a parameter in place of those of its name: the others stay, as they are and in their order, and this one is the last
abbrev pub with_pair : MediaType → List ℕ → List ℕ → MediaType
with_pair media name content = with_pairs media (others name media.pairs ++ ((name, content) ∷ []))

-- A written value means the value that was passed; that of a `charset` means it in lowercase, as it is read.
abbrev pub WrittenIsMeant : Type 0
WrittenIsMeant = (name value : List ℕ) → unescaped (lowered_value name (escaped value)) ≡ lowered_value name value
