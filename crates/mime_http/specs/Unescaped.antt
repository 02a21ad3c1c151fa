-- What the content of a quoted string means: each quoted pair is the byte after its backslash (RFC 9110, 5.6.4).
use Rattle.std.specs.Prelude.{ℕ, List, [], ◌∷◌, if◌then◌else◌, ◌==◌}
use Rattle.mime.specs.Bytes.{backslash_byte}

-- a backslash at the end, which no content of a quoted string has, means nothing
abbrev pub unescaped : List ℕ → List ℕ
unescaped [] = []
unescaped (b ∷ []) = if b == backslash_byte then [] else b ∷ []
unescaped (b ∷ c ∷ bytes) = if b == backslash_byte then c ∷ unescaped bytes else b ∷ unescaped (c ∷ bytes)
