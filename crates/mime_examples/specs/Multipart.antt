-- The parts of a multipart body (RFC 2046, 5.1.1). A line ends with a line feed, with or without a carriage return before it. A delimiter
-- is two hyphens and the boundary at the start of a line, and closes the body with two more hyphens after it. Any other line that goes on
-- with more than white space isn't a delimiter, since the boundary of a part that is multipart itself may begin with this one.
use Rattle.std.specs.Prelude.{◌≡◌, ◌≢◌, ◌⊎◌, ◌≤◌, ℕ, ◌-◌, Bool, true, false, List, [], ◌∷◌, ◌++◌, ◌==◌, Option, Some, None, IsTrue, not}
use Rattle.std.specs.Prelude.{codes, length, slice_get}
use Rattle.std.specs.List.{list_all}
use Rattle.std.specs.Str.{IsTrimAscii}
use Rattle.mime.specs.{Grammar.is_space, Values.lowered}

-- bytes without a line feed
abbrev pub IsLine : List ℕ → Type 0
IsLine line = IsTrue (list_all (λ b. not (b == 10)) line)

-- a line of nothing but a carriage return, or of nothing
abbrev pub IsEmptyLine : List ℕ → Type 0
IsEmptyLine line = (line ≡ []) ⊎ (line ≡ codes "\r")

-- what follows these bytes begins a line: they are none, or end with a line feed
abbrev pub EndsLine : List ℕ → Type 0
EndsLine bytes = bytes ≢ [] → slice_get bytes (length bytes - 1) ≡ Some 10

-- with these bytes after it, a delimiter closes the body
abbrev pub Closes : List ℕ → Type 0
Closes after = (more : List ℕ) × (after ≡ codes "--" ++ more)

-- with these bytes after it, a delimiter begins a part: white space up to the end of its line, and this text after that
pub data Opens : List ℕ → List ℕ → Type 0 where
  feed : (text : List ℕ) → Opens (10 ∷ text) text
  return_feed : (text : List ℕ) → Opens (13 ∷ 10 ∷ text) text
  space : (b : ℕ) (after text : List ℕ) → IsTrue (is_space b) → Opens after text → Opens (b ∷ after) text

-- with these bytes after it, a delimiter is one
abbrev pub EndsDelimiter : List ℕ → Type 0
EndsDelimiter after = Closes after ⊎ ((text : List ℕ) × Opens after text)

-- no line is a delimiter
abbrev pub HasNoDelimiter : List ℕ → List ℕ → Type 0
HasNoDelimiter delimiter text = (before after : List ℕ) → EndsLine before → EndsDelimiter after → text ≢ before ++ (delimiter ++ after)

-- what stands before, and after, the first delimiter
pub record IsCut (delimiter text before after : List ℕ) : Type 0 where
  pub whole : text ≡ before ++ (delimiter ++ after)
  pub line : EndsLine before
  pub ends : EndsDelimiter after
  pub first : (earlier later : List ℕ) → EndsLine earlier → EndsDelimiter later → text ≡ earlier ++ (delimiter ++ later)
      → length before ≤ length earlier

-- the part in the bytes before a delimiter: the end of their last line belongs to the delimiter
pub data IsPart : List ℕ → List ℕ → Type 0 where
  no_line : IsPart [] []
  with_return : (part : List ℕ) → IsPart (part ++ codes "\r\n") part
  without_return : (part : List ℕ) → ((line : List ℕ) → part ≢ line ++ codes "\r") → IsPart (part ++ codes "\n") part

-- the part between a delimiter, with these bytes after it, and the next delimiter, and what stands after that
pub record IsNextPart (delimiter left part after : List ℕ) : Type 0 where
  pub text : List ℕ
  pub before : List ℕ
  pub opens : Opens left text
  pub cut : IsCut delimiter text before after
  pub is_part : IsPart before part

-- a delimiter, with these bytes after it, begins a part, and no other one follows
pub record IsCutOff (delimiter left : List ℕ) : Type 0 where
  pub text : List ℕ
  pub opens : Opens left text
  pub alone : HasNoDelimiter delimiter text

-- the parts after a delimiter, in their order, and whether a delimiter closes the body
pub data AreParts (delimiter : List ℕ) : List ℕ → List (List ℕ) → Bool → Type 0 where
  closed : (left : List ℕ) → Closes left → AreParts delimiter left [] true
  cut_off : (left : List ℕ) → IsCutOff delimiter left → AreParts delimiter left [] false
  a_part : (left part after : List ℕ) (parts : List (List ℕ)) (is_whole : Bool) → IsNextPart delimiter left part after
      → AreParts delimiter after parts is_whole → AreParts delimiter left (part ∷ parts) is_whole

-- those of a body; what stands before its first delimiter is no part
pub data IsBody (delimiter : List ℕ) : List ℕ → List (List ℕ) → Bool → Type 0 where
  no_delimiter : (body : List ℕ) → HasNoDelimiter delimiter body → IsBody delimiter body [] false
  after_preamble : (body preamble after : List ℕ) (parts : List (List ℕ)) (is_whole : Bool) → IsCut delimiter body preamble after
      → AreParts delimiter after parts is_whole → IsBody delimiter body parts is_whole

-- a line of a part's header is a field of this name, in any case, and its value is this without the white space around it (RFC 5322, 2.2)
pub record IsField (name line value : List ℕ) : Type 0 where
  pub written : List ℕ
  pub rest : List ℕ
  pub spelled : line ≡ written ++ (codes ":" ++ rest)
  pub named : lowered written ≡ lowered name
  pub trimmed : IsTrimAscii rest value

-- the value of the first field of this name in a part's header, if there is one; an empty line ends the header
pub data IsFirstField (name : List ℕ) : List ℕ → Option (List ℕ) → Type 0 where
  in_line : (line more value : List ℕ) → IsLine line → IsField name line value → IsFirstField name (line ++ (10 ∷ more)) (Some value)
  after_line : (line more : List ℕ) (found : Option (List ℕ)) → IsLine line → ((value : List ℕ) → ¬ (IsField name line value))
      → ¬ (IsEmptyLine line) → IsFirstField name more found → IsFirstField name (line ++ (10 ∷ more)) found
  empty_line : (line more : List ℕ) → IsLine line → IsEmptyLine line → IsFirstField name (line ++ (10 ∷ more)) None
  no_line_end : (line : List ℕ) → IsLine line → IsFirstField name line None

-- the content of a part: what follows its first empty line, if there is one; the end of a last line belongs to the delimiter
pub data IsContent : List ℕ → Option (List ℕ) → Type 0 where
  after_empty : (line content : List ℕ) → IsEmptyLine line → IsContent (line ++ (10 ∷ content)) (Some content)
  after_full : (line more : List ℕ) (found : Option (List ℕ)) → IsLine line → ¬ (IsEmptyLine line) → IsContent more found
      → IsContent (line ++ (10 ∷ more)) found
  empty_last : IsContent [] (Some [])
  full_last : (line : List ℕ) → IsLine line → line ≢ [] → IsContent line None
