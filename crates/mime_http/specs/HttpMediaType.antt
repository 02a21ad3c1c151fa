-- A header's value that is one media type, as HTTP defines it (RFC 9110, 8.3.1 and 5.6.6), and what it is read as. Above each definition
-- is its rule. OWS, token and the content of a quoted string (5.6.2 to 5.6.4) are `AreSpaces`, `IsToken` and `IsContent` of `mime`.
use Rattle.std.specs.Prelude.{◌≡◌, ℕ, ◌+◌, List, [], ◌∷◌, ◌++◌, length, drop}
use Rattle.mime.specs.Bytes.{slash_byte, semicolon_byte, equals_byte, quote_byte}
use Rattle.mime.specs.Grammar.{AreSpaces, IsToken, IsContent}
use Rattle.mime.specs.Values.{MediaType, lowered, lowered_value, last_plus}

-- parameter = parameter-name "=" ( token / quoted-string ), with quoted-string = DQUOTE content DQUOTE. Its name is read in lowercase,
-- and its value as it is or, of a `charset`, in lowercase; a quoted string is read without its quotes, and with its backslashes
pub data IsHttpParameter : List ℕ → List ℕ × List ℕ → Type 0 where
  with_token : (name value : List ℕ) → IsToken name → IsToken value
      → IsHttpParameter (name ++ (equals_byte ∷ value)) (lowered name, lowered_value name value)
  with_string : (name content : List ℕ) → IsToken name → IsContent content
      → IsHttpParameter (name ++ (equals_byte ∷ quote_byte ∷ (content ++ (quote_byte ∷ [])))) (lowered name, lowered_value name content)

-- parameters = *( OWS ";" OWS [ parameter ] ), which are read in their order
pub data AreHttpParameters : List ℕ → List (List ℕ × List ℕ) → Type 0 where
  no_more : AreHttpParameters [] []
  semicolon : (before after rest : List ℕ) (pairs : List (List ℕ × List ℕ)) → AreSpaces before → AreSpaces after
      → AreHttpParameters rest pairs → AreHttpParameters (before ++ (semicolon_byte ∷ (after ++ rest))) pairs
  semicolon_and : (before after parameter rest : List ℕ) (pair : List ℕ × List ℕ) (pairs : List (List ℕ × List ℕ)) → AreSpaces before
      → AreSpaces after → IsHttpParameter parameter pair → AreHttpParameters rest pairs
      → AreHttpParameters (before ++ (semicolon_byte ∷ (after ++ (parameter ++ rest)))) (pair ∷ pairs)

-- OWS media-type OWS, with media-type = type "/" subtype parameters: the value has this form, and is read as this media type. This
-- says nothing of the kept text, which is what is printed
pub record HttpReads (value : List ℕ) (media : MediaType) : Type 0 where
  pub before : List ℕ
  pub top : List ℕ
  pub sub : List ℕ
  pub parameters : List ℕ
  pub after : List ℕ
  pub spelled : before ++ (top ++ (slash_byte ∷ (sub ++ (parameters ++ after)))) ≡ value
  pub white_before : AreSpaces before
  pub is_top : IsToken top
  pub is_sub : IsToken sub
  pub are_parameters : AreHttpParameters parameters media.pairs
  pub white_after : AreSpaces after
  pub essence : media.essence ≡ lowered top ++ (slash_byte ∷ lowered sub)
  pub slash : media.slash ≡ length top
  pub plus : media.plus ≡ last_plus (length top + 2) (drop 1 (lowered sub))

-- The value is a media type that HTTP allows.
abbrev pub IsHttpMediaType : List ℕ → Type 0
IsHttpMediaType value = (media : MediaType) × HttpReads value media
