-- Private: offers with their ranks, in order.
use Rattle.std.specs.Prelude.{◌≡◌, ◌≤◌, ◌<◌, ◌↔◌, ℕ, List, Contains, length, map}
use Rattle.std.specs.{List.All, List.AllPairs, declared.cmp.Reverse.Reverse}
use Rattle.mime.specs.Values.{MediaType}
use Rattle.mime_http.specs.Ranges.{Rank, ComesBefore, merit_at}

-- all offers that weigh at least so much, in order, each with its rank and its position
pub record AreRanked (least : ℕ) (ranges offers : List MediaType) (ranked : List (Reverse Rank × ℕ)) : Type 0 where
  pub best_first : AllPairs (ComesBefore (merit_at ranges offers)) (map (λ offer. offer.1) ranked)
  pub all : (at : ℕ) → Contains (map (λ offer. offer.1) ranked) at ↔ ((at < length offers) × (least ≤ (merit_at ranges offers at).0))
  pub ranks : All (λ offer. offer.0.0 ≡ merit_at ranges offers offer.1) ranked
