-- Private: where quoted content ends, and what it means.
use Rattle.std.specs.Prelude.{ℕ, zero, suc, Bool, true, false, List, [], ◌∷◌, if◌then◌else◌, ◌==◌, ◌&&◌, not}

abbrev pub quote : ℕ
quote = 34

abbrev pub backslash : ℕ
backslash = 92

-- whether a byte is awaited, one that can't close the value, after one more byte: one is after a backslash that doesn't end a
-- pair, and none is at the value's start (`false`)
abbrev pub awaits_next : Bool → ℕ → Bool
awaits_next awaiting b = not awaiting && b == backslash

-- the number of bytes before the closing quote, or of all bytes if there is none
abbrev pub len_from : Bool → List ℕ → ℕ
len_from awaiting [] = zero
len_from awaiting (b ∷ bytes) =
    if not awaiting && b == quote then zero else suc (len_from (awaits_next awaiting b) bytes)

-- the bytes that content means: a backslash and the byte after it mean that byte, and a backslash at the end means nothing
abbrev pub meant_from : Bool → List ℕ → List ℕ
meant_from awaiting [] = []
meant_from awaiting (b ∷ bytes) = if awaits_next awaiting b then meant_from true bytes else b ∷ meant_from false bytes
