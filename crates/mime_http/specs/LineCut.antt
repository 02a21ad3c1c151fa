-- Private: the places of a line, its cut as a function over them, and what is kept of its pieces.
use Rattle.std.specs.Prelude.{◌≡◌, ◌<◌, ◌≤◌, ◌||◌, ℕ, zero, suc, Bool, true, false, List, [], ◌∷◌, ◌++◌, ◌+◌, ◌-◌, ◌^◌, min, Option, Some}
use Rattle.std.specs.Prelude.{None, MatchOption, flat_map, length, drop, slice_index, if◌then◌else◌, ◌==◌, not}
use Rattle.std.specs.{List.prefix_len, Option.option_or}
use Rattle.mime.specs.Bytes.{comma_byte, equals_byte, quote_byte, backslash_byte}
use Rattle.mime.specs.Values.{MediaType}
use Rattle.mime_http.specs.HttpList.{AreSorted, FirstBad, Header}

-- where in a line the next byte is: outside strings, right after an equals sign outside strings, in a string, and right after a
-- backslash in a string
pub data At : Type 0 where
  Outside : At
  Equals : At
  Quoted : At
  Paired : At

-- the place after a byte
abbrev pub after : At → ℕ → At
after Outside b = if b == equals_byte then Equals else Outside
after Equals b = if b == quote_byte then Quoted else if b == equals_byte then Equals else Outside
after Quoted b = if b == backslash_byte then Paired else if b == quote_byte then Outside else Quoted
after Paired b = Quoted

-- whether a byte ends a piece
abbrev pub ends_piece : At → ℕ → Bool
ends_piece Quoted b = false
ends_piece Paired b = false
ends_piece place b = b == comma_byte

-- the pieces of a line, from a place on, of which the first begins with these bytes
abbrev pub cut_from : At → List ℕ → List ℕ → List (List ℕ)
cut_from place piece [] = piece ∷ []
cut_from place piece (b ∷ bytes) =
    if ends_piece place b then piece ∷ cut_from Outside [] bytes else cut_from (after place b) (piece ++ (b ∷ [])) bytes

abbrev pub cut : List ℕ → List (List ℕ)
cut line = cut_from Outside [] line

-- the pieces of lines
abbrev pub pieces_of : List (List ℕ) → List (List ℕ)
pieces_of lines = flat_map cut lines

-- the number of bytes of the first piece, from a place on
abbrev pub piece_len : At → List ℕ → ℕ
piece_len place [] = zero
piece_len place (b ∷ bytes) = if ends_piece place b then zero else suc (piece_len (after place b) bytes)

-- those after a comma
abbrev pub cut_after : List ℕ → List (List ℕ)
cut_after [] = []
cut_after (b ∷ bytes) = cut bytes

-- whether a byte is one of two marks
abbrev pub is_mark : ℕ → ℕ → ℕ → Bool
is_mark one other b = b == one || b == other

-- the number of bytes before the first of two marks
abbrev pub before_mark : ℕ → ℕ → List ℕ → ℕ
before_mark one other bytes = prefix_len (λ b. not (is_mark one other b)) bytes

-- a position, from one outside strings on, up to which a piece goes on outside strings: that of a comma or an equals sign, or the length
pub record IsNextOutside (bytes : List ℕ) (from to : ℕ) : Type 0 where
  pub least : from ≤ to
  pub within : to ≤ length bytes
  pub left : to + piece_len Outside (drop to bytes) ≡ from + piece_len Outside (drop from bytes)
  pub mark : to < length bytes → is_mark comma_byte equals_byte (slice_index bytes to) ≡ true

-- what is held while pieces are read: what is kept, and of the bad entries the number, as far as it fits, and the first one's position
pub record Held : Type 0 where
  pub kept : Header
  pub count : ℕ
  pub first : Option ℕ

-- what is held before any piece is read
abbrev pub nothing_held : Held
nothing_held = record { kept = record { ranges = []; bad = [] }; count = 0; first = None }

-- what is held with one more range
abbrev pub with_range : MediaType → Held → Held
with_range range held = record held { kept = record held.kept { ranges = held.kept.ranges ++ (range ∷ []) } }

-- what is held with one more bad entry, which is kept if `keeps_bad`
abbrev pub with_bad : Bool → List ℕ → Held → Held
with_bad keeps_bad entry held = record {
  kept = record held.kept { bad = if keeps_bad then held.kept.bad ++ (entry ∷ []) else held.kept.bad };
  count = min (held.count + 1) (2 ^ 64 - 1);
  first = option_or held.first (Some (length held.kept.ranges));
}

-- what is held of pieces: the ranges, the bad entries if `keeps_bad`, and their number and the first one's position
pub record AreHeld (keeps_bad : Bool) (pieces : List (List ℕ)) (held : Held) : Type 0 where
  pub bad : List (List ℕ)
  pub sorted : AreSorted pieces held.kept.ranges bad
  pub kept : held.kept.bad ≡ (if keeps_bad then bad else [])
  pub count : held.count ≡ min (length bad) (2 ^ 64 - 1)
  pub first : MatchOption held.first (bad ≡ []) (FirstBad pieces)

-- These pieces were taken between two states, whatever was held before.
abbrev pub Takes : Bool → List (List ℕ) → Held → Held → Type 0
Takes keeps_bad pieces old new = (before : List (List ℕ)) → AreHeld keeps_bad before old → AreHeld keeps_bad (before ++ pieces) new
