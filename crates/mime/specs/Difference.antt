-- Which first differences of two texts, ignoring ASCII case, mean that they are not read as equal values.
use Rattle.std.specs.Prelude.{ℕ, Bool, IsTrue, List, ◌==◌, ◌||◌, not}
use Rattle.std.specs.List.{slice_index}
use Rattle.mime.specs.Bytes.{quote_byte}
use Rattle.mime.specs.Grammar.{is_space}
pub use Rattle.mime_search.specs.IgnoringCase.{FirstDifference}

-- a byte that reaches the value: any but a space, a tab and a quote
abbrev pub reaches_value : ℕ → Bool
reaches_value b = not (is_space b || b == quote_byte)

-- two texts whose first difference reaches the value: neither byte there is a space, a tab or a quote
pub record DifferInValue (one other : List ℕ) : Type 0 where
  pub at : ℕ
  pub first : FirstDifference one other at
  pub reaches : IsTrue (reaches_value (slice_index one at))
  pub other_reaches : IsTrue (reaches_value (slice_index other at))
