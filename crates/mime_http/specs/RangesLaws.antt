-- The laws of the file Ranges (RFC 9110, 12.5.1).
use Rattle.std.specs.Prelude.{◌≡◌, ◌⊎◌, ◌↔◌, ◌<◌, ◌≤◌, ℕ, ◌+◌, ◌*◌, List, [], ◌∷◌, ◌++◌, codes, replicate, Some, None, IsTrue, Contains}
use Rattle.std.specs.Prelude.{MatchOption, is_some, map, option_map, unwrap_or, nat_lt, slice_get, if◌then◌else◌}
use Rattle.std.specs.List.{enumerate_from}
use Rattle.mime.specs.Values.{MediaType, type_of}
use Rattle.mime_http.specs.Ranges.{Rank, weight_of, closeness, closest, given_weight, best_offer, AreInOrder}
use Rattle.mime_http.specs.Ranking.{IsRanking, is_qvalue}
use Rattle.mime_http.specs.Unescaped.{unescaped}
use Rattle.mime_http.specs.Weight.{thousandths_of}
use Rattle.mime_http.specs.declared.ranking.RankedOffer.{RankedOffer}

-- qvalue = ( "0" [ "." 0*3DIGIT ] ) / ( "1" [ "." 0*3("0") ] ), and how many thousandths it is (12.4.2)
pub data IsQvalue : List ℕ → ℕ → Type 0 where
  zero : IsQvalue (codes "0") 0
  zero_dot : IsQvalue (codes "0.") 0
  one_digit : (a : ℕ) → a ≤ 9 → IsQvalue (codes "0." ++ ((48 + a) ∷ [])) (100 * a)
  two_digits : (a b : ℕ) → a ≤ 9 → b ≤ 9 → IsQvalue (codes "0." ++ ((48 + a) ∷ (48 + b) ∷ [])) (100 * a + 10 * b)
  three_digits : (a b c : ℕ) → a ≤ 9 → b ≤ 9 → c ≤ 9 → IsQvalue (codes "0." ++ ((48 + a) ∷ (48 + b) ∷ (48 + c) ∷ [])) (100 * a + 10 * b + c)
  one : IsQvalue (codes "1") 1000
  one_dot : (zeros : ℕ) → zeros ≤ 3 → IsQvalue (codes "1." ++ replicate zeros 48) 1000

-- The qvalues are the texts of which `is_qvalue` is true.
abbrev pub QvaluesAre : Type 0
QvaluesAre = (text : List ℕ) → IsTrue (is_qvalue text) ↔ ((thousandths : ℕ) × IsQvalue text thousandths)

-- A weight that RFC 9110 allows counts as its number.
abbrev pub WeightIsNumber : Type 0
WeightIsNumber = (text : List ℕ) (thousandths : ℕ) → IsQvalue text thousandths → thousandths_of text ≡ thousandths

-- a rank is at most another: of the first places that differ its is the lower
abbrev pub IsAtMost : Rank → Rank → Type 0
IsAtMost rank other = (rank.0 < other.0) ⊎ ((rank.0 ≡ other.0) × ((rank.1 < other.1) ⊎ ((rank.1 ≡ other.1)
    × ((rank.2 < other.2) ⊎ ((rank.2 ≡ other.2) × (rank.3 ≤ other.3))))))

-- The most specific range is one of the ranges, and each that covers the offer is at most as specific. If there is none, none covers it.
abbrev pub ClosestIsClosest : Type 0
ClosestIsClosest = (ranges : List MediaType) (offer : MediaType) → MatchOption (closest ranges offer)
    ((item : ℕ × MediaType) → Contains (enumerate_from 0 ranges) item → closeness offer item ≡ None)
    (λ close. ((item : ℕ × MediaType) × Contains (enumerate_from 0 ranges) item × (closeness offer item ≡ Some close))
    × ((item : ℕ × MediaType) (other : Rank) → Contains (enumerate_from 0 ranges) item → closeness offer item ≡ Some other
    → IsAtMost other close))

-- The best offer is the first in the order of all that weigh more than 0.
abbrev pub BestIsFirst : Type 0
BestIsFirst = (ranges offers : List MediaType) (order : List ℕ) → AreInOrder ranges offers order
    → best_offer ranges offers ≡ slice_get order 0

-- The best offer weighs more than 0.
abbrev pub BestIsAcceptable : Type 0
BestIsAcceptable = (ranges offers : List MediaType) (at : ℕ) → best_offer ranges offers ≡ Some at
    → (offer : MediaType) × (slice_get offers at ≡ Some offer) × (0 < given_weight ranges offer)

-- No offer is the best exactly if every offer weighs 0.
abbrev pub NoneIsBest : Type 0
NoneIsBest = (ranges offers : List MediaType)
    → (best_offer ranges offers ≡ None) ↔ ((offer : MediaType) → Contains offers offer → given_weight ranges offer ≡ 0)

-- The offers that weigh more than 0 have at most one order, and all offers have at most one ranking.
abbrev pub OneOrderOfOffers : Type 0
OneOrderOfOffers = (ranges offers : List MediaType) (order other : List ℕ) → AreInOrder ranges offers order → AreInOrder ranges offers other
    → order ≡ other

abbrev pub OneRanking : Type 0
OneRanking = (ranges offers : List MediaType) (ranking other : List RankedOffer) → IsRanking ranges offers ranking
    → IsRanking ranges offers other → ranking ≡ other

-- The first offer of a ranking is the best, unless it weighs 0. Then no offer is the best.
abbrev pub BestIsRankedFirst : Type 0
BestIsRankedFirst = (ranges offers : List MediaType) (ranking : List RankedOffer) → IsRanking ranges offers ranking
    → best_offer ranges offers
    ≡ unwrap_or (option_map (λ first. if nat_lt 0 first.weight then Some first.offer else None) (slice_get ranking 0)) None

-- Each media type covers itself.
abbrev pub CoversItself : Type 0
CoversItself = (media : MediaType) → IsTrue (is_some (closeness media (0, media)))

-- two media types mean the same: they have the same essence and type, and one by one their parameters have the same names and mean the same
abbrev pub meaning_of : List ℕ × List ℕ → List ℕ × List ℕ
meaning_of pair = (pair.0, unescaped pair.1)

pub record MeanTheSame (media other : MediaType) : Type 0 where
  pub essence : media.essence ≡ other.essence
  pub top : type_of media ≡ type_of other
  pub pairs : map meaning_of media.pairs ≡ map meaning_of other.pairs

-- How specific a range is for an offer doesn't change if both are written differently and mean the same, unless the weight changes, which
-- is read as it is written.
abbrev pub MeaningCounts : Type 0
MeaningCounts = (range other offer offered : MediaType) (at : ℕ) → MeanTheSame range other → MeanTheSame offer offered
    → weight_of range ≡ weight_of other → closeness offer (at, range) ≡ closeness offered (at, other)

-- A range that covers none of the offers changes neither their weights nor which is the best nor their order, wherever it is and
-- whatever it weighs.
abbrev pub StrangerChangesNothing : Type 0
StrangerChangesNothing = (before after offers : List MediaType) (range : MediaType)
    → ((offer : MediaType) → Contains offers offer → closeness offer (0, range) ≡ None)
    → ((offer : MediaType) → Contains offers offer → given_weight (before ++ (range ∷ after)) offer ≡ given_weight (before ++ after) offer)
    × (best_offer (before ++ (range ∷ after)) offers ≡ best_offer (before ++ after) offers)
    × ((order : List ℕ) → AreInOrder (before ++ after) offers order → AreInOrder (before ++ (range ∷ after)) offers order)
