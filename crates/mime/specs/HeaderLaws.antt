-- The laws of what is written into a header: which bytes a value prints, and what a parameter that is written is read as.
use Rattle.std.specs.Prelude.{ℕ, List, [], ◌∷◌, ◌++◌, IsTrue, codes}
use Rattle.std.specs.List.{list_all, AllByRecursion}
use Rattle.std.specs.Option.{IfSome}
use Rattle.mime.specs.Bytes.{is_quoted_byte}
use Rattle.mime.specs.Grammar.{AreTokenBytes, IsToken, IsContent}
use Rattle.mime.specs.Values.{MediaType, Reads, lowered, lowered_value, type_of, subtype_of, suffix_of}

-- only tabs, and bytes from 32 to 255 other than 127, as a header's value has them (RFC 7230, 3.2): no line feed, no carriage
-- return and no zero
abbrev pub AreHeaderBytes : List ℕ → Type 0
AreHeaderBytes bytes = IsTrue (list_all is_quoted_byte bytes)

-- a pair whose name is a token, and whose value is quoted content; a token is such content too
abbrev pub IsSafePair : List ℕ × List ℕ → Type 0
IsSafePair (name, content) = IsToken name × IsContent content

-- the value is safe in a header: its kept text has only a header's bytes; its type, its subtype and its names are tokens, its suffix
-- is a token or empty, and its values are quoted content
pub record IsSafe (value : MediaType) : Type 0 where
  pub kept : AreHeaderBytes value.kept
  pub top : IsToken (type_of value)
  pub sub : IsToken (subtype_of value)
  pub suffix : IfSome (suffix_of value) AreTokenBytes
  pub pairs : AllByRecursion IsSafePair value.pairs

-- A value that was read is safe in a header.
abbrev pub KeptIsSafe : Type 0
KeptIsSafe = (text : List ℕ) (value : MediaType) → Reads text value → IsSafe value

-- the essence, and after it a parameter with its value in quotes
abbrev pub text_with_parameter : List ℕ → List ℕ → List ℕ → List ℕ
text_with_parameter essence name content = essence ++ (codes "; " ++ (name ++ (codes "=\"" ++ (content ++ codes "\""))))

-- the value with this pair in place of its parameters
abbrev pub with_parameter : MediaType → List ℕ → List ℕ → MediaType
with_parameter value name content = record value { pairs = (name, content) ∷ []; kept = text_with_parameter value.essence name content }

-- The essence of a value that was read, with a token and quoted content after it as a parameter, is read as the value with that
-- parameter and no other, lowercased as reading lowercases.
abbrev pub ParameterIsRead : Type 0
ParameterIsRead = (text : List ℕ) (value : MediaType) (name content : List ℕ) → Reads text value → IsToken name → IsContent content
    → Reads (text_with_parameter value.essence name content) (with_parameter value (lowered name) (lowered_value name content))
