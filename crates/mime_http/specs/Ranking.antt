-- Why an offer is chosen: its weight, and the range that decides (RFC 9110, 12.4.2 and 12.5.1).
use Rattle.std.specs.Prelude.{◌≡◌, ◌↔◌, ◌<◌, ℕ, ◌-◌, Bool, true, false, List, [], ◌∷◌, length, Some, None, Contains, map, nat_lt, not, ◌&&◌}
use Rattle.std.specs.Prelude.{◌||◌, ◌==◌, if◌then◌else◌}
use Rattle.std.specs.{Char.is_ascii_digit, List.list_all, List.AllPairs}
use Rattle.mime.specs.Values.{MediaType}
use Rattle.mime_http.specs.{Ranges.Rank, Ranges.ComesBefore, Ranges.merit_at, declared.ranking.RankedOffer.RankedOffer}

-- what the rank of an offer at a position says: its weight, and the position of the range that decides, which the rank counts from the end
abbrev pub ranked_as : ℕ → Rank → ℕ → RankedOffer
ranked_as count rank at = record { offer = at; weight = rank.0; range = if rank.3 == 0 then None else Some (count - rank.3) }

-- all offers with their weights and the ranges that decide, in order
pub record IsRanking (ranges offers : List MediaType) (ranking : List RankedOffer) : Type 0 where
  pub order : List ℕ
  pub best_first : AllPairs (ComesBefore (merit_at ranges offers)) order
  pub all : (at : ℕ) → Contains order at ↔ (at < length offers)
  pub given : ranking ≡ map (λ at. ranked_as (length ranges) (merit_at ranges offers at) at) order

-- qvalue = ( "0" [ "." 0*3DIGIT ] ) / ( "1" [ "." 0*3("0") ] )
abbrev pub are_decimals : Bool → List ℕ → Bool
are_decimals zeros_alone [] = true
are_decimals zeros_alone (dot ∷ decimals) =
    dot == 46 && nat_lt (length decimals) 4 && list_all (λ b. b == 48 || (not zeros_alone && is_ascii_digit b)) decimals

abbrev pub is_qvalue : List ℕ → Bool
is_qvalue [] = false
is_qvalue (b ∷ decimals) = (b == 48 && are_decimals false decimals) || (b == 49 && are_decimals true decimals)
