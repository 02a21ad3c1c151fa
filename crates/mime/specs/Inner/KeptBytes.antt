-- The text that a value keeps. A file of its own, since it names a type of the code that cites `KeptText`.
use Rattle.std.specs.Prelude.{ℕ, List, Bool, true, false, string_bytes}
use Rattle.mime.specs.declared.value.Text.{Text}
use Rattle.mime.specs.declared.value.Text.TheVariants.{Owned, Short}

abbrev pub bytes_of : Text → List ℕ
bytes_of (Owned text) = string_bytes text
bytes_of (Short text) = text

abbrev pub is_fixed : Text → Bool
is_fixed (Owned text) = false
is_fixed (Short text) = true
