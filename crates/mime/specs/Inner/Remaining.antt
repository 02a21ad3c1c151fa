-- What a byte reader has left to give, and how many bytes it gave. A file of its own, since `Scanning` names
-- types of the code that depend on the reader.
use Rattle.std.specs.Prelude.{ℕ, ◌+◌, List, drop}

pub record Remaining : Type 0 where
  pub left : List ℕ
  pub count : ℕ

-- what a reader at a position in a text has left, with the count before the text
abbrev pub reader_at : List ℕ → ℕ → ℕ → Remaining
reader_at text at before = record { left = drop at text; count = before + at }
