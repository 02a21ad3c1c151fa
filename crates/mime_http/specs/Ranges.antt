-- The weight of an offer by the ranges of an `Accept` header, and the best offer (RFC 9110, 12.4.2 and 12.5.1).
use Rattle.std.specs.Prelude.{◌≡◌, ◌⊎◌, ◌↔◌, ◌<◌, ℕ, ◌-◌, Bool, List, ◌++◌, length, Option, Some, None, IsTrue, Contains, option_map}
use Rattle.std.specs.Prelude.{unwrap_or, map, filter, filter_map, find, position, slice_index_or, nat_lt, not, ◌&&◌, if◌then◌else◌, codes}
use Rattle.std.specs.List.{list_all, list_any, enumerate_from, AllPairs}
use Rattle.std.specs.Ordering.{is_gt, is_le, nat_cmp, on, then_cmp}
use Rattle.std.specs.Str.{bytes_eq}
use Rattle.std.specs.declared.cmp.Ordering.{Ordering}
use Rattle.mime.specs.Values.{MediaType, type_of}
use Rattle.mime_http.specs.{Unescaped.unescaped, Weight.thousandths_of}

-- the first value under a name, if there is one
abbrev pub first_value : List ℕ → List (List ℕ × List ℕ) → Option (List ℕ)
first_value name pairs = option_map (λ pair. pair.1) (find (λ pair. bytes_eq pair.0 name) pairs)

-- a range's weight in thousandths: that of its first `q`, in quotes or not, with its backslashes as they are; 1000 without one (12.4.2)
abbrev pub weight_of : MediaType → ℕ
weight_of range = unwrap_or (option_map thousandths_of (first_value (codes "q") range.pairs)) 1000

-- how many parts of an offer's essence a range names, if it covers that: `*/*` none, `text/*` the type, `text/html` both
abbrev pub named_parts : MediaType → MediaType → Option ℕ
named_parts range offer = if bytes_eq range.essence (codes "*/*") then Some 0 else
    if bytes_eq range.essence (type_of offer ++ codes "/*") then Some 1 else
    if bytes_eq range.essence offer.essence then Some 2 else None

-- whether a range demands its parameters of this name: those other than `q`, before it and after it
abbrev pub is_demanded : List ℕ → Bool
is_demanded name = not (bytes_eq name (codes "q"))

-- the parameters that a range demands, each of which an offer must have
abbrev pub demanded : List (List ℕ × List ℕ) → List (List ℕ × List ℕ)
demanded pairs = filter (λ pair. is_demanded pair.0) pairs

-- an offer has a parameter if one of its own has the name, and a value that means the same (5.6.4). Only charsets are read in lowercase
abbrev pub has : MediaType → List ℕ × List ℕ → Bool
has offer pair = list_any (λ own. bytes_eq own.0 pair.0 && bytes_eq (unescaped own.1) (unescaped pair.1)) offer.pairs

-- numbers of four places, of which the first that differ decide
abbrev pub Rank : Type 0
Rank = ℕ × ℕ × ℕ × ℕ

abbrev pub rank_cmp : Rank → Rank → Ordering
rank_cmp = then_cmp (then_cmp (then_cmp (on (λ r. r.0) nat_cmp) (on (λ r. r.1) nat_cmp)) (on (λ r. r.2) nat_cmp)) (on (λ r. r.3) nat_cmp)

-- how specific a range at a position is that covers an offer: by the parts that it names, then by the parameters that it demands; of
-- equally specific ranges the one with the higher weight counts, and of those the later
abbrev pub closeness : MediaType → ℕ × MediaType → Option Rank
closeness offer item = if list_all (has offer) (demanded item.1.pairs)
    then option_map (λ named. (named, length (demanded item.1.pairs), weight_of item.1, item.0)) (named_parts item.1 offer) else None

-- the most specific range is the one that no other is more specific than
abbrev pub closest : List MediaType → MediaType → Option Rank
closest ranges offer =
    let all = filter_map (closeness offer) (enumerate_from 0 ranges) in find (λ one. list_all (λ other. is_le (rank_cmp other one)) all) all

-- how an offer ranks: by the weight of its most specific range, then by how specific that is, then by how early it is in the header
abbrev pub merit : List MediaType → MediaType → Rank
merit ranges offer =
    unwrap_or (option_map (λ close. (close.2, close.0, close.1, length ranges - close.3)) (closest ranges offer)) (0, 0, 0, 0)

-- the weight of an offer by these ranges
abbrev pub given_weight : List MediaType → MediaType → ℕ
given_weight ranges offer = (merit ranges offer).0

-- the position of the best offer: the first that weighs more than 0 and that no other ranks above
abbrev pub best_offer : List MediaType → List MediaType → Option ℕ
best_offer ranges offers =
    let all = map (merit ranges) offers in position (λ one. nat_lt 0 one.0 && list_all (λ other. is_le (rank_cmp other one)) all) all

-- the rank of the offer at a position
abbrev pub merit_at : List MediaType → List MediaType → ℕ → Rank
merit_at ranges offers at = slice_index_or (map (merit ranges) offers) at (0, 0, 0, 0)

-- of two offers, at positions of these ranks, the first comes before the second: it ranks higher, or as high and is offered first
abbrev pub ComesBefore : (ℕ → Rank) → ℕ → ℕ → Type 0
ComesBefore rank at other = IsTrue (is_gt (rank_cmp (rank at) (rank other))) ⊎ ((rank at ≡ rank other) × (at < other))

-- the positions of all offers that weigh more than 0, in order
pub record AreInOrder (ranges offers : List MediaType) (order : List ℕ) : Type 0 where
  pub best_first : AllPairs (ComesBefore (merit_at ranges offers)) order
  pub all : (at : ℕ) → Contains order at ↔ (0 < (merit_at ranges offers at).0)
