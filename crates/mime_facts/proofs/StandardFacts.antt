-- Texts with what they are read as or why they are rejected, by computation: a wrong rule does not check.
use Rattle.std.proofs.Common.{◌≡◌, ℕ, List, [], ◌∷◌, ◌++◌, Option, Some, None, refl, codes, arith, lit<}
use Rattle.mime.specs.{Bytes.is_token_byte, Bytes.is_quoted_byte, Grammar.no_byte, Grammar.plain, Grammar.quoted, Grammar.blank}
use Rattle.mime.specs.{Grammar.final, Grammar.more, Grammar.Tail, Grammar.no_list, Grammar.listed, Grammar.SyntaxTree, Grammar.text_of}
use Rattle.mime.specs.{Grammar.IsWellFormed, Values.MediaType, Values.value_of, Values.Reads, Difference.DifferInValue, Faults.IsFault}
use Rattle.mime.specs.{declared.atoms.Atom.TheVariants.TEXT_JAVASCRIPT, declared.atoms.TheConstants.TEXT_JAVSCRIPT}
use Rattle.mime.specs.{declared.scan.fault.ParseError.TheVariants.MissingSlash, declared.scan.fault.ParseError.TheVariants.MissingSubtype}
use Rattle.mime.specs.{declared.scan.fault.ParseError.TheVariants.MissingEqual, declared.scan.fault.ParseError.TheVariants.MissingValue}
use Rattle.mime.specs.{declared.scan.fault.ParseError.TheVariants.MissingQuote, declared.scan.fault.ParseError.TheVariants.InvalidToken}
use Rattle.mime.proofs.{CompareLemmas.FirstDifference.different_values, GrammarLemmas.Content.IsContent-taken}
use Rattle.mime.proofs.{GrammarLemmas.Viability.lacks-from_walk, GrammarLemmas.Viability.dead-from_walk}

-- ---- accepted texts

-- A value by its essence, the positions of slash and plus, its pairs and its kept text.
abbrev pub media : List ℕ → ℕ → Option ℕ → List (List ℕ × List ℕ) → List ℕ → MediaType
media essence slash plus pairs kept = record { essence = essence; slash = slash; plus = plus; pairs = pairs; kept = kept }

-- A tree by its type, its subtype and its tail.
abbrev pub tree_from_parts : List ℕ → List ℕ → Tail → SyntaxTree
tree_from_parts top sub tail = record { top = top; sub = sub; tail = tail }

-- A well-formed tree has its text read as its value.
pub reads : (top sub : List ℕ) (tail : Tail) → IsWellFormed (tree_from_parts top sub tail)
    → Reads (text_of (tree_from_parts top sub tail)) (value_of (tree_from_parts top sub tail))
reads top sub tail fine = record { tree = tree_from_parts top sub tail; well_formed = fine; spelled = refl; valued = refl }

-- The subtype's first byte begins no suffix.
plus_first : Reads (codes "a/+xml") (media (codes "a/+xml") 1 None [] (codes "a/+xml"))
unfolding is_token_byte
plus_first = reads (codes "a") (codes "+xml") no_list (refl, refl, tt)

-- The last plus begins the suffix.
pub plus_twice : Reads (codes "a/b+c+d") (media (codes "a/b+c+d") 1 (Some 5) [] (codes "a/b+c+d"))
unfolding is_token_byte
plus_twice = reads (codes "a") (codes "b+c+d") no_list (refl, refl, tt)

-- A suffix may be empty.
plus_last : Reads (codes "a/b+") (media (codes "a/b+") 1 (Some 3) [] (codes "a/b+"))
unfolding is_token_byte
plus_last = reads (codes "a") (codes "b+") no_list (refl, refl, tt)

-- Type, subtype, names and a charset are lowercased, other values are kept.
pub lowered_parts : Reads (codes "TEXT/PLAIN; CHARSET=UTF-8; FOO=BAR")
    (media (codes "text/plain") 4 None ((codes "charset", codes "utf-8") ∷ (codes "foo", codes "BAR") ∷ [])
    (codes "text/plain; charset=utf-8; foo=BAR"))
unfolding is_token_byte
lowered_parts =
    reads (codes "TEXT") (codes "PLAIN")
    (listed (more (codes " ") (plain (codes "CHARSET") (codes "UTF-8")) (final (codes " ") (plain (codes "FOO") (codes "BAR")))))
    (refl, refl, (refl, (refl, refl), (refl, (refl, refl))))

-- A list without parameters isn't kept.
blank_list : Reads (codes "text/event-stream;       ") (media (codes "text/event-stream") 4 None [] (codes "text/event-stream"))
unfolding is_token_byte
blank_list = reads (codes "text") (codes "event-stream") (listed (blank (codes "       "))) (refl, refl, refl)

-- A semicolon and spaces after the last parameter are kept.
kept_end : Reads (codes "a/b;p=x; ") (media (codes "a/b") 1 None ((codes "p", codes "x") ∷ []) (codes "a/b;p=x; "))
unfolding is_token_byte
kept_end =
    reads (codes "a") (codes "b") (listed (more [] (plain (codes "p") (codes "x")) (blank (codes " "))))
    (refl, refl, (refl, (refl, refl), refl))

-- A quoted value may be empty.
no_content : Reads (codes "a/b;p=\"\"") (media (codes "a/b") 1 None ((codes "p", []) ∷ []) (codes "a/b;p=\"\""))
unfolding is_token_byte is_quoted_byte
no_content = reads (codes "a") (codes "b") (listed (final [] (quoted (codes "p") [] []))) (refl, refl, (refl, (refl, no_byte, refl)))

-- A backslash pairs a quote, and the value keeps both.
paired_quote : Reads (codes "a/b;p=\"\\\"x\"") (media (codes "a/b") 1 None ((codes "p", codes "\\\"x") ∷ []) (codes "a/b;p=\"\\\"x\""))
unfolding is_token_byte is_quoted_byte
paired_quote =
    reads (codes "a") (codes "b") (listed (final [] (quoted (codes "p") (codes "\\\"x") [])))
    (refl, refl, (refl, (refl, IsContent-taken (codes "\\\"x") refl refl, refl)))

-- A charset is lowercased after a backslash too.
paired_capital : Reads (codes "a/b;charset=\"\\U\"")
    (media (codes "a/b") 1 None ((codes "charset", codes "\\u") ∷ []) (codes "a/b;charset=\"\\u\""))
unfolding is_token_byte is_quoted_byte
paired_capital =
    reads (codes "a") (codes "b") (listed (final [] (quoted (codes "charset") (codes "\\U") [])))
    (refl, refl, (refl, (refl, IsContent-taken (codes "\\U") refl refl, refl)))

-- A tab may occur in a quoted value.
tab_in_quotes : Reads (codes "a/b;p=\"" ++ (195 ∷ 169 ∷ 9 ∷ codes "\""))
    (media (codes "a/b") 1 None ((codes "p", 195 ∷ 169 ∷ 9 ∷ []) ∷ []) (codes "a/b;p=\"" ++ (195 ∷ 169 ∷ 9 ∷ codes "\"")))
unfolding is_token_byte is_quoted_byte
tab_in_quotes =
    reads (codes "a") (codes "b") (listed (final [] (quoted (codes "p") (195 ∷ 169 ∷ 9 ∷ []) [])))
    (refl, refl, (refl, (refl, IsContent-taken (195 ∷ 169 ∷ 9 ∷ []) refl refl, refl)))

-- A tab is allowed wherever a space is.
tabs_beside_parameters : Reads (codes "a/b;" ++ (9 ∷ codes "p=\"x\"" ++ (9 ∷ codes ";q=1")))
    (media (codes "a/b") 1 None ((codes "p", codes "x") ∷ (codes "q", codes "1") ∷ [])
    (codes "a/b;" ++ (9 ∷ codes "p=\"x\"" ++ (9 ∷ codes ";q=1"))))
unfolding is_token_byte is_quoted_byte
tabs_beside_parameters =
    reads (codes "a") (codes "b")
    (listed (more (9 ∷ []) (quoted (codes "p") (codes "x") (9 ∷ [])) (final [] (plain (codes "q") (codes "1")))))
    (refl, refl, (refl, (refl, IsContent-taken (codes "x") refl refl, refl), (refl, (refl, refl))))

-- A quoted value may hold bytes past ASCII, semicolons and commas.
quoted_bytes : Reads (codes "a/b;p=\"" ++ (195 ∷ 169 ∷ codes ";,\""))
    (media (codes "a/b") 1 None ((codes "p", 195 ∷ 169 ∷ codes ";,") ∷ []) (codes "a/b;p=\"" ++ (195 ∷ 169 ∷ codes ";,\"")))
unfolding is_token_byte is_quoted_byte
quoted_bytes =
    reads (codes "a") (codes "b") (listed (final [] (quoted (codes "p") (195 ∷ 169 ∷ codes ";,") [])))
    (refl, refl, (refl, (refl, IsContent-taken (195 ∷ 169 ∷ codes ";,") refl refl, refl)))

-- Spaces may follow a quoted value, and a name may occur twice.
spaces_after_quotes : Reads (codes "A/B; P=\"x\" ;p=2")
    (media (codes "a/b") 1 None ((codes "p", codes "x") ∷ (codes "p", codes "2") ∷ []) (codes "a/b; p=\"x\" ;p=2"))
unfolding is_token_byte is_quoted_byte
spaces_after_quotes =
    reads (codes "A") (codes "B")
    (listed (more (codes " ") (quoted (codes "P") (codes "x") (codes " ")) (final [] (plain (codes "p") (codes "2")))))
    (refl, refl, (refl, (refl, IsContent-taken (codes "x") refl refl, refl), (refl, (refl, refl))))

-- The old spelling of a constant's name is the same constant.
old_spelling : TEXT_JAVSCRIPT ≡ TEXT_JAVASCRIPT
old_spelling = refl

-- ---- rejected texts

-- No text at all lacks a slash too.
empty_text : IsFault [] MissingSlash
empty_text = lacks-from_walk [] _ refl refl

-- Only a type.
pub no_slash : IsFault (codes "invalid") MissingSlash
unfolding is_token_byte
no_slash = lacks-from_walk (codes "invalid") _ refl refl

-- A type and its slash.
pub no_subtype : IsFault (codes "text/") MissingSubtype
unfolding is_token_byte
no_subtype = lacks-from_walk (codes "text/") _ refl refl

-- Only a parameter's name.
pub no_equals : IsFault (codes "a/b;p") MissingEqual
unfolding is_token_byte
no_equals = lacks-from_walk (codes "a/b;p") _ refl refl

-- A name and its equals sign.
pub no_value : IsFault (codes "a/b;p=") MissingValue
unfolding is_token_byte
no_value = lacks-from_walk (codes "a/b;p=") _ refl refl

-- In an open quoted value a slash and an equals sign are content, and a lone backslash leaves it open.
open_quotes : IsFault (codes "a/b;p=\"x/") MissingQuote × IsFault (codes "a/b;p=\"=") MissingQuote
    × IsFault (codes "a/b;p=\"\\") MissingQuote
unfolding is_token_byte is_quoted_byte
open_quotes = (
  lacks-from_walk (codes "a/b;p=\"x/") _ refl refl,
  lacks-from_walk (codes "a/b;p=\"=") _ refl refl,
  lacks-from_walk (codes "a/b;p=\"\\") _ refl refl,
)

-- A paired quote closes nothing.
pub no_quote : IsFault (codes "a/b;p=\"\\\"") MissingQuote
unfolding is_token_byte is_quoted_byte
no_quote = lacks-from_walk (codes "a/b;p=\"\\\"") _ refl refl

-- A type has no space.
pub space_in_type : IsFault (codes "a b") (InvalidToken 1 32)
unfolding is_token_byte
space_in_type = dead-from_walk (codes "a") (codes "b") 32 _ refl refl

-- These bytes are at fault, at these positions.
bytes_at_fault :
    -- a subtype has no slash
    IsFault (codes "a//") (InvalidToken 2 47)
    -- a subtype has one byte or more, and so has a value
    × IsFault (codes "text/;") (InvalidToken 5 59)
    × IsFault (codes "a/b;p=;") (InvalidToken 6 59)
    -- no space follows a name
    × IsFault (codes "a/b;p ") (InvalidToken 5 32)
    -- only spaces and tabs may follow a quoted value, even an empty one
    × IsFault (codes "a/b;p=\"x\"junk") (InvalidToken 9 106)
    × IsFault (codes "a/b;p=\"\"x\"") (InvalidToken 8 120)
    -- no control but the tab may occur in a quoted value or follow a backslash there
    × IsFault (codes "a/b;p=\"" ++ (195 ∷ 169 ∷ 1 ∷ codes "\"")) (InvalidToken 9 1)
    × IsFault (codes "a/b;p=\"\\" ++ (13 ∷ [])) (InvalidToken 8 13)
    -- no tab precedes the first semicolon
    × IsFault (codes "a/b" ++ (9 ∷ codes ";p=x")) (InvalidToken 3 9)
    -- no tab follows a plain value
    × IsFault (codes "a/b;p=x" ++ (9 ∷ [])) (InvalidToken 7 9)
    -- a line's end is no space
    × IsFault (codes "text/plain;" ++ (13 ∷ 10 ∷ codes "charset=utf-8")) (InvalidToken 11 13)
unfolding is_token_byte is_quoted_byte
bytes_at_fault = (
  dead-from_walk (codes "a/") [] 47 _ refl refl,
  dead-from_walk (codes "text/") [] 59 _ refl refl,
  dead-from_walk (codes "a/b;p=") [] 59 _ refl refl,
  dead-from_walk (codes "a/b;p") [] 32 _ refl refl,
  dead-from_walk (codes "a/b;p=\"x\"") (codes "unk") 106 _ refl refl,
  dead-from_walk (codes "a/b;p=\"\"") (codes "\"") 120 _ refl refl,
  dead-from_walk (codes "a/b;p=\"" ++ (195 ∷ 169 ∷ [])) (codes "\"") 1 _ refl refl,
  dead-from_walk (codes "a/b;p=\"\\") [] 13 _ refl refl,
  dead-from_walk (codes "a/b") (codes ";p=x") 9 _ refl refl,
  dead-from_walk (codes "a/b;p=x") [] 9 _ refl refl,
  dead-from_walk (codes "text/plain;") (10 ∷ codes "charset=utf-8") 13 _ refl refl,
)

-- ---- first differences

-- Neither byte is a space, a tab or a quote.
first_difference_decides : DifferInValue (codes "a/b;p=x") (codes "A/B;P=y")
first_difference_decides = record {
  at = 6;
  first = record { within = lit< tt; within_other = lit< tt; equal_before = refl; differ = λ same. omega (arith, same) };
  reaches = refl;
  other_reaches = refl;
}

-- A quote doesn't reach the value: the values are equal.
quoted_value_not_different_values : ¬ (DifferInValue (codes "a/b;p=x") (codes "a/b;p=\"x\""))
unfolding is_token_byte is_quoted_byte
quoted_value_not_different_values = λ d.
    different_values _ _ _ _
    (reads (codes "a") (codes "b") (listed (final [] (plain (codes "p") (codes "x")))) (refl, refl, (refl, (refl, refl))))
    (reads (codes "a") (codes "b") (listed (final [] (quoted (codes "p") (codes "x") [])))
    (refl, refl, (refl, (refl, IsContent-taken (codes "x") refl refl, refl)))) d (refl, refl)
