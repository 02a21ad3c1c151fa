-- The laws of the hash.
use Rattle.std.specs.Prelude.{◌≡◌, ℕ, List, ◌++◌}
use Rattle.std.specs.Hash.{HashWrites}
use Rattle.std.specs.List.{concat}
use Rattle.std.specs.Str.{IsUtf8}
use Rattle.mime.specs.Values.{MediaType, OwnedMedia, Reads}
use Rattle.mime.specs.Comparison.{Same}

-- the value was read from a text of valid UTF-8, as that of each `Mime` is
abbrev pub IsReadInUtf8 : MediaType → Type 0
IsReadInUtf8 value = (text : List ℕ) × IsUtf8 text × Reads text value

-- Equal values feed a hasher the same.
abbrev pub RespectsEquality : (OwnedMedia → HashWrites) → Type 0
RespectsEquality input = (first second : OwnedMedia) → Same first.media second.media → input first ≡ input second

-- What values feed a hasher is prefix-free: if the bytes of one begin those of another, or are the same, then the two are equal.
abbrev pub IsPrefixFree : (OwnedMedia → HashWrites) → Type 0
IsPrefixFree input = (first second : OwnedMedia) (more : List ℕ) → IsReadInUtf8 first.media → IsReadInUtf8 second.media
    → concat (input first) ++ more ≡ concat (input second) → Same first.media second.media
