-- The grammar of media types: the syntax trees, the text of each, and which trees are well formed
-- (RFC 7231, 3.1.1.1, with the departures that docs/DIFFERENCES.md lists).
use Rattle.std.specs.Prelude.{ℕ, List, [], ◌∷◌, ◌++◌, ◌==◌, ◌||◌, Bool, false, IsTrue, ⊤}
use Rattle.std.specs.List.{list_all}
use Rattle.mime.specs.Bytes.{is_token_byte, is_quoted_byte, is_quoted_text_byte, slash_byte, semicolon_byte, equals_byte, quote_byte}
use Rattle.mime.specs.Bytes.{backslash_byte, space_byte, tab_byte}

-- parameter = name "=" ( value / DQUOTE content DQUOTE spaces )
pub data Parameter : Type 0 where
  plain : (name value : List ℕ) → Parameter
  quoted : (name content spaces : List ℕ) → Parameter

-- parameters = spaces [ parameter [ ";" parameters ] ]
pub data Parameters : Type 0 where
  blank : (spaces : List ℕ) → Parameters
  final : (spaces : List ℕ) (parameter : Parameter) → Parameters
  more : (spaces : List ℕ) (parameter : Parameter) (rest : Parameters) → Parameters

-- tail = [ ";" parameters ]
pub data Tail : Type 0 where
  no_list : Tail
  listed : Parameters → Tail

-- media-type = type "/" subtype tail
pub record SyntaxTree : Type 0 where
  pub top : List ℕ
  pub sub : List ℕ
  pub tail : Tail

-- SP / HTAB
abbrev pub is_space : ℕ → Bool
is_space b = b == space_byte || b == tab_byte

-- spaces = *( SP / HTAB )
abbrev pub AreSpaces : List ℕ → Type 0
AreSpaces bytes = IsTrue (list_all is_space bytes)

-- the text of a parameter
abbrev pub text_of_parameter : Parameter → List ℕ
text_of_parameter (plain name value) = name ++ (equals_byte ∷ value)
text_of_parameter (quoted name content n) = name ++ (equals_byte ∷ quote_byte ∷ (content ++ (quote_byte ∷ n)))

-- the text of a parameter list
abbrev pub text_of_list : Parameters → List ℕ
text_of_list (blank n) = n
text_of_list (final n parameter) = n ++ text_of_parameter parameter
text_of_list (more n parameter rest) = n ++ (text_of_parameter parameter ++ (semicolon_byte ∷ text_of_list rest))

-- the text after the subtype
abbrev pub text_of_tail : Tail → List ℕ
text_of_tail no_list = []
text_of_tail (listed parameters) = semicolon_byte ∷ text_of_list parameters

-- the text of a tree
abbrev pub text_of : SyntaxTree → List ℕ
text_of tree = tree.top ++ (slash_byte ∷ (tree.sub ++ text_of_tail tree.tail))

-- *tchar
abbrev pub AreTokenBytes : List ℕ → Type 0
AreTokenBytes bytes = IsTrue (list_all is_token_byte bytes)

-- token = 1*tchar
abbrev pub is_token : List ℕ → Bool
is_token [] = false
is_token (b ∷ bytes) = list_all is_token_byte (b ∷ bytes)

abbrev pub IsToken : List ℕ → Type 0
IsToken bytes = IsTrue (is_token bytes)

-- content = *( qdtext / quoted-pair ), with its backslashes (RFC 7230, 3.2.6)
pub data IsContent : List ℕ → Type 0 where
  no_byte : IsContent []
  text_byte : (b : ℕ) (content : List ℕ) → IsTrue (is_quoted_text_byte b) → IsContent content → IsContent (b ∷ content)
  quoted_pair : (b : ℕ) (content : List ℕ) → IsTrue (is_quoted_byte b) → IsContent content → IsContent (backslash_byte ∷ b ∷ content)

-- a parameter is well formed: its name is a token, and its value a token or quoted content, with only spaces after the quotes
abbrev pub IsParameter : Parameter → Type 0
IsParameter (plain name value) = IsToken name × IsToken value
IsParameter (quoted name content n) = IsToken name × IsContent content × AreSpaces n

-- a parameter list is well formed: its spaces are spaces, and its parameters are well formed
abbrev pub AreParameters : Parameters → Type 0
AreParameters (blank n) = AreSpaces n
AreParameters (final n parameter) = AreSpaces n × IsParameter parameter
AreParameters (more n parameter rest) = AreSpaces n × IsParameter parameter × AreParameters rest

-- what follows the subtype is well formed: nothing, or a semicolon and a well-formed parameter list
abbrev pub IsTail : Tail → Type 0
IsTail no_list = ⊤
IsTail (listed parameters) = AreParameters parameters

-- a tree is well formed: its type and its subtype are tokens, and its tail is well formed
abbrev pub IsWellFormed : SyntaxTree → Type 0
IsWellFormed tree = IsToken tree.top × IsToken tree.sub × IsTail tree.tail
