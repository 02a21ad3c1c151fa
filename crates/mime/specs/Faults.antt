-- Why a text is rejected: which texts may still become a media type, the longest prefix of a text that may, and its one fault.
use Rattle.std.specs.Prelude.{◌≡◌, ℕ, ◌<◌, ◌≤◌, List, [], ◌∷◌, ◌++◌, length, take, slice_get, Option, Some, None, MatchOption, codes, ⊤}
use Rattle.mime.specs.Bytes.{slash_byte, equals_byte}
use Rattle.mime.specs.Values.{MediaType, NeedsMemory, Reads, IsAccepted}
use Rattle.mime.specs.declared.scan.fault.ParseError.{ParseError}
use Rattle.mime.specs.declared.scan.fault.ParseError.TheVariants.{MissingSlash, MissingSubtype, MissingEqual, MissingValue, MissingQuote}
use Rattle.mime.specs.declared.scan.fault.ParseError.TheVariants.{InvalidToken, NoMemory}

-- a text is viable: some accepted text begins with it
abbrev pub IsViable : List ℕ → Type 0
IsViable prefix = (more : List ℕ) × IsAccepted (prefix ++ more)

-- the longest prefix of the text that is viable, in this sense of the word, has this many bytes
pub record IsLongest (Viable : List ℕ → Type 0) (text : List ℕ) (count : ℕ) : Type 0 where
  pub within : count ≤ length text
  pub viable : Viable (take count text)
  pub longest : (n : ℕ) → count < n → n ≤ length text → ¬ (Viable (take n text))

abbrev pub IsLongestPrefix : List ℕ → ℕ → Type 0
IsLongestPrefix text count = IsLongest IsViable text count

-- the bytes that complete a text with this fault, which lacks at its end a slash, a subtype, a parameter's equals sign, its
-- value, or its closing quote
abbrev pub completion_of : ParseError → Option (List ℕ)
completion_of MissingSlash = Some (codes "x/x")
completion_of MissingSubtype = Some (codes "x")
completion_of MissingEqual = Some (codes "=x")
completion_of MissingValue = Some (codes "x")
completion_of MissingQuote = Some (codes "x\"")
completion_of other = None

-- the byte that a text with this fault ends in, for the two faults that have the same completion
abbrev pub last_byte_of : ParseError → Option ℕ
last_byte_of MissingSubtype = Some slash_byte
last_byte_of MissingValue = Some equals_byte
last_byte_of other = None

-- the last byte of the text is this one
abbrev pub EndsIn : List ℕ → ℕ → Type 0
EndsIn text byte = (prefix : List ℕ) × (text ≡ prefix ++ (byte ∷ []))

-- the text lacks what the fault says: with the fault's completion after it, it is accepted, in this sense of the word, and it ends in
-- the fault's byte, if the fault has one. An accepted text lacks nothing
abbrev pub LacksTo : (List ℕ → Type 0) → List ℕ → ParseError → Type 0
LacksTo Accepted text fault = MatchOption (completion_of fault) ⊥ (λ more. Accepted (text ++ more))
    × MatchOption (last_byte_of fault) ⊤ (EndsIn text)

abbrev pub Lacks : List ℕ → ParseError → Type 0
Lacks text fault = LacksTo IsAccepted text fault

-- the text ends in an open quoted string
abbrev pub IsUnclosed : List ℕ → Type 0
IsUnclosed text = Lacks text MissingQuote

-- the byte just after the longest viable prefix, at position `pos` in bytes from 0, is at fault: nothing after it helps
pub record IsDeadAt (text : List ℕ) (pos byte : ℕ) : Type 0 where
  pub prefix : IsLongestPrefix text pos
  pub there : slice_get text pos ≡ Some byte

-- the fault of a rejected text; `NoMemory` isn't one
abbrev pub IsFault : List ℕ → ParseError → Type 0
IsFault text (InvalidToken pos byte) = IsDeadAt text pos byte
IsFault text fault = Lacks text fault

-- why reading a text fails: by its fault, or out of memory, which happens only if it is read as a media type that needs memory
abbrev pub Explains : List ℕ → ParseError → Type 0
Explains text NoMemory = (value : MediaType) × Reads text value × NeedsMemory value
Explains text fault = IsFault text fault
