-- Private: at which bytes a search stops, as a bit mask, and where the first is.
use Rattle.std.specs.Prelude.{◌≡◌, ◌≤◌, length, take, ℕ, ◌+◌, Bool, not, ◌&&◌, ◌||◌, List, map, drop, nat_lt, if◌then◌else◌}
use Rattle.std.specs.Int.Bits.{bit_or}
use Rattle.std.specs.List.{prefix_len}
use Rattle.std.specs.Simd.Lanes.{mask_l}
use Rattle.mime_search.specs.declared.class.Class.{Class}
use Rattle.mime_search.specs.declared.class.Range.{Range}
use Rattle.mime_search.specs.declared.start.Start.{Start}

-- a byte is outside a range if it is less than the first or more than the last
abbrev pub is_outside_range : Range → ℕ → Bool
is_outside_range range b = nat_lt b range.0 || nat_lt range.1 b

abbrev pub is_outside : Class → ℕ → Bool
is_outside class b =
    (is_outside_range class.folded (bit_or b class.fold) && is_outside_range class.second b) && is_outside_range class.third b

-- a search stops inside the ranges, or outside
abbrev pub is_stop : Class → ℕ → Bool
is_stop class b = if class.inside then not (is_outside class b) else is_outside class b

-- which bytes are outside, and at which a search stops, as numbers: bit by bit from the lowest
abbrev pub outside : Class → List ℕ → ℕ
outside class bytes = mask_l (map (is_outside class) bytes)

abbrev pub stops : Class → List ℕ → ℕ
stops class bytes = mask_l (map (is_stop class) bytes)

-- the position, from one on, of the first stop, or the length
abbrev pub end_of_run : Class → List ℕ → ℕ → ℕ
end_of_run class text from = from + prefix_len (λ b. not (is_stop class b)) (drop from text)

-- which of the first bytes of a text, at most 64, stop a search
pub record IsStart (class : Class) (text : List ℕ) (start : Start) : Type 0 where
  pub few : start.known ≤ 64
  pub there : start.known ≤ length text
  pub mask : start.stops ≡ stops class (take start.known text)
