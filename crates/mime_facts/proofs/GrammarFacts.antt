-- Bytes, texts and trees for which each definition of the grammar is true and others for which it is false, by computation.
use Rattle.std.proofs.Common.{◌≡◌, true, false, [], ◌∷◌, map, refl, codes}
use Rattle.std.proofs.lemmas.Bool.{true≢false, false≢true}
use Rattle.std.specs.List.{list_all, list_any}
use Rattle.mime.specs.{Bytes.is_token_byte, Bytes.is_quoted_byte, Bytes.is_quoted_text_byte, Bytes.slash_byte, Bytes.plus_byte}
use Rattle.mime.specs.{Bytes.semicolon_byte, Bytes.equals_byte, Bytes.quote_byte, Bytes.backslash_byte, Bytes.space_byte, Bytes.tab_byte}
use Rattle.mime.specs.{Bytes.comma_byte, Grammar.plain, Grammar.quoted, Grammar.Parameters, Grammar.blank, Grammar.final, Grammar.more}
use Rattle.mime.specs.{Grammar.no_list, Grammar.listed, Grammar.is_space, Grammar.AreSpaces, Grammar.text_of_parameter}
use Rattle.mime.specs.{Grammar.text_of_list, Grammar.text_of_tail, Grammar.text_of, Grammar.AreTokenBytes, Grammar.IsToken}
use Rattle.mime.specs.{Grammar.IsContent, Grammar.IsParameter, Grammar.AreParameters, Grammar.IsTail, Grammar.IsWellFormed}
use Rattle.mime.proofs.GrammarLemmas.Content.{IsContent-taken, content-taken, content-closed}

-- ---- bytes

-- The token bytes of RFC 7230, and ASCII bytes that aren't.
token_bytes : (list_all is_token_byte (codes "!#$%&'*+-.0123456789ABCDEFGHIJKLMNOPQRSTUVWXYZ^_`abcdefghijklmnopqrstuvwxyz|~") ≡ true)
    × (list_any is_token_byte (0 ∷ 9 ∷ 31 ∷ 127 ∷ 128 ∷ 255 ∷ codes " \"(),/:;<=>?@[\\]{}") ≡ false)
unfolding is_token_byte
token_bytes = (refl, refl)

-- Bytes that a backslash may precede, and others.
paired_bytes : (list_all is_quoted_byte (9 ∷ 32 ∷ 34 ∷ 92 ∷ 126 ∷ 128 ∷ 255 ∷ []) ≡ true)
    × (list_any is_quoted_byte (0 ∷ 8 ∷ 10 ∷ 13 ∷ 31 ∷ 127 ∷ 256 ∷ []) ≡ false)
unfolding is_quoted_byte
paired_bytes = (refl, refl)

-- Bytes that may occur in a quoted value without a backslash, and others.
quoted_text_bytes : (list_all is_quoted_text_byte (9 ∷ 32 ∷ 33 ∷ 35 ∷ 59 ∷ 91 ∷ 93 ∷ 126 ∷ 128 ∷ 255 ∷ []) ≡ true)
    × (list_any is_quoted_text_byte (10 ∷ 34 ∷ 92 ∷ 127 ∷ []) ≡ false)
unfolding is_quoted_byte
quoted_text_bytes = (refl, refl)

-- These bytes have a role of their own.
flags :
    slash_byte ∷ plus_byte ∷ semicolon_byte ∷ equals_byte ∷ quote_byte ∷ backslash_byte ∷ space_byte ∷ tab_byte
    ∷ comma_byte ∷ [] ≡ codes "/+;=\"\\ \t,"
flags = refl

-- A space and a tab are spaces, a line feed and a letter aren't.
space_bytes : map is_space (codes " \t\nx") ≡ true ∷ true ∷ false ∷ false ∷ []
space_bytes = refl

-- Spaces and tabs are spaces, a line feed isn't.
spaces : AreSpaces (codes " \t ") × AreSpaces [] × ¬ (AreSpaces (codes " \n"))
spaces = (refl, refl, λ is. false≢true is)

-- ---- texts of trees

-- A parameter list with a plain value and a quoted one.
abbrev two_parameters : Parameters
two_parameters = more (codes " ") (plain (codes "p") (codes "x")) (final [] (quoted (codes "q") (codes "\\y") (codes " ")))

-- The texts of a parameter, of lists, of tails and of a tree.
texts : (text_of_parameter (quoted (codes "q") (codes "\\y") (codes " ")) ≡ codes "q=\"\\y\" ")
    × (text_of_list (blank (codes "  ")) ≡ codes "  ") × (text_of_list two_parameters ≡ codes " p=x;q=\"\\y\" ")
    × (text_of_tail no_list ≡ []) × (text_of_tail (listed (blank [])) ≡ codes ";")
    × (text_of (record { top = codes "a"; sub = codes "b"; tail = listed two_parameters }) ≡ codes "a/b; p=x;q=\"\\y\" ")
texts = (refl, refl, refl, refl, refl, refl)

-- ---- well-formed trees

-- A token has one byte or more, and only token bytes.
tokens : AreTokenBytes [] × IsToken (codes "x-a") × ¬ (AreTokenBytes (codes "a b")) × ¬ (IsToken (codes "a b")) × ¬ (IsToken [])
unfolding is_token_byte
tokens = (refl, refl, (λ is. false≢true is), (λ is. false≢true is), λ is. false≢true is)

-- Content pairs each backslash, and has no quote but after one.
contents : IsContent [] × IsContent (codes "\\\"x") × ¬ (IsContent (codes "x\"")) × ¬ (IsContent (codes "x\\"))
unfolding is_quoted_byte
contents = (
  IsContent-taken [] refl refl,
  IsContent-taken (codes "\\\"x") refl refl,
  (λ is. false≢true (content-taken _ is)),
  λ is. true≢false (content-closed _ is),
)

-- A plain value isn't empty, and a quoted one may be; only spaces may follow its quotes.
parameters :
    IsParameter (plain (codes "p") (codes "x")) × IsParameter (quoted (codes "p") [] (codes " "))
    × ¬ (IsParameter (plain (codes "p") [])) × ¬ (IsParameter (quoted [] (codes "x") []))
    × ¬ (IsParameter (quoted (codes "p") [] (codes "x")))
unfolding is_token_byte is_quoted_byte
parameters = (
  (refl, refl),
  (refl, IsContent-taken [] refl refl, refl),
  (λ is. false≢true is.1),
  (λ is. false≢true is.0),
  λ is. false≢true is.2,
)

-- The spaces before a parameter are spaces, and the rest of its list is well formed too.
lists :
    AreParameters two_parameters × ¬ (AreParameters (blank (codes "x")))
    × ¬ (AreParameters (final (codes "x") (plain (codes "p") (codes "x"))))
    × ¬ (AreParameters (more [] (plain (codes "p") (codes "x")) (blank (codes "x"))))
unfolding is_token_byte is_quoted_byte
lists = (
  (refl, (refl, refl), (refl, (refl, IsContent-taken (codes "\\y") refl refl, refl))),
  (λ is. false≢true is),
  (λ is. false≢true is.0),
  λ is. false≢true is.2,
)

-- Type and subtype are tokens, and the list is well formed.
trees :
    IsTail no_list × IsWellFormed (record { top = codes "a"; sub = codes "b"; tail = no_list })
    × ¬ (IsWellFormed (record { top = []; sub = codes "b"; tail = no_list }))
    × ¬ (IsWellFormed (record { top = codes "a"; sub = []; tail = no_list }))
    × ¬ (IsWellFormed (record { top = codes "a"; sub = codes "b"; tail = listed (blank (codes "x")) }))
unfolding is_token_byte
trees = (tt, (refl, refl, tt), (λ is. false≢true is.0), (λ is. false≢true is.1), λ is. false≢true is.2)
