-- The kept text of a value, with the positions of its parts.
use Rattle.std.specs.Prelude.{◌≡◌, ℕ, zero, suc, ◌+◌, List, ◌++◌, length, take, drop, Option, Some, None, unwrap_or, ◌==◌}
use Rattle.std.specs.List.{AllByRecursion, position}
use Rattle.mime.specs.Values.{MediaType, lowered, lowered_value, lowered_tree}
use Rattle.mime.specs.Inner.Pairs.{pairs_after, lowered_within}
use Rattle.mime.specs.Inner.Scanning.{HasPositions}
use Rattle.mime.specs.declared.scan.Positions.{Positions}
use Rattle.std.specs.Option.{option_to_list}
use Rattle.mime.specs.Bytes.{slash_byte, plus_byte, semicolon_byte}

-- the value that a kept text and the positions of its parts give
abbrev pub media_of : List ℕ → Positions → MediaType
media_of text positions = record {
  essence = take (unwrap_or positions.semicolon (length text)) text;
  slash = positions.slash;
  plus = positions.plus;
  pairs = pairs_after positions.pair_count positions.semicolon text;
  kept = text;
}

-- the positions in the kept text: no semicolon if there is no pair
abbrev pub kept_semicolon : ℕ → Option ℕ → Option ℕ
kept_semicolon zero semicolon = None
kept_semicolon (suc pairs) semicolon = semicolon

abbrev pub kept_positions : Positions → Positions
kept_positions positions = record positions { semicolon = kept_semicolon positions.pair_count positions.semicolon }

-- a text as it is kept, with the positions of its parts: its tree is in lowercase already, without an empty list
pub record IsKept (text : List ℕ) (positions : Positions) : Type 0 where
  pub has : HasPositions text positions
  pub low : lowered_tree has.tree ≡ has.tree
  pub kept : kept_positions positions ≡ positions

-- a text lowercased up to its semicolon, and then pair by pair
abbrev pub with_pairs_lowered : ℕ → ℕ → List ℕ → List ℕ
with_pairs_lowered pairs semicolon text =
    lowered (take (semicolon + 1) text) ++ lowered_within pairs (drop (semicolon + 1) text)

-- the kept text of an accepted text with its parts at these positions
abbrev pub kept_text_of : ℕ → Option ℕ → List ℕ → List ℕ
kept_text_of pairs None text = lowered text
kept_text_of zero (Some semicolon) text = lowered (take semicolon text)
kept_text_of (suc pairs) (Some semicolon) text = with_pairs_lowered (suc pairs) semicolon text

-- a pair as it is read: its name in lowercase letters, and its value too if the name is `charset`
abbrev pub lowered_pair : List ℕ × List ℕ → List ℕ × List ℕ
lowered_pair (name, value) = (lowered name, lowered_value name value)

-- a pair as it is kept: lowercasing changes nothing of it
abbrev pub IsLowPair : List ℕ × List ℕ → Type 0
IsLowPair pair = lowered_pair pair ≡ pair

abbrev pub AreLowPairs : List (List ℕ × List ℕ) → Type 0
AreLowPairs pairs = AllByRecursion IsLowPair pairs

-- where a byte first occurs in a text
abbrev first_of : ℕ → List ℕ → Option ℕ
first_of byte text = position (λ b. b == byte) text

-- the positions of the parts of a text with at most one plus and at most one parameter
abbrev pub positions_in : List ℕ → Positions
positions_in text = record {
  slash = unwrap_or (first_of slash_byte text) 0;
  plus = first_of plus_byte text;
  semicolon = first_of semicolon_byte text;
  pair_count = length (option_to_list (first_of semicolon_byte text));
}
