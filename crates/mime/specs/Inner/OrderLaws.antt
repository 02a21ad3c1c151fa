-- The laws of order and equality as terms: a type's `ghost laws` are among its contracts, and can't cite proofs/.
use Rattle.std.specs.Prelude.{◌≡◌, true}
use Rattle.std.specs.Cmp.{IsTotalOrder, on_total, then_total, Equal-is}
use Rattle.std.specs.Cmp.Lexicographic.{slice_cmp, lists_total, nat_list_cmp_total}
use Rattle.std.specs.FinMap.{slice_cmp-IsAntisymmetric}
use Rattle.std.specs.Ordering.{nat_cmp, eq_by_cmp}
use Rattle.std.proofs.lemmas.Map.Lookups.{exact_bytes, exact_pairs}
use Rattle.mime.specs.Values.{MediaType}
use Rattle.mime.specs.Comparison.{Same, pair_cmp, media_cmp}

-- the order of pairs is total
pub pair_cmp_total : IsTotalOrder pair_cmp
pair_cmp_total = then_total (on_total (λ pair. pair.0) nat_list_cmp_total) (on_total (λ pair. pair.1) nat_list_cmp_total)

-- the order of values is total
pub media_cmp_total : IsTotalOrder media_cmp
media_cmp_total =
    then_total (on_total (λ media. media.essence) nat_list_cmp_total) (on_total (λ media. media.pairs) (lists_total pair_cmp_total))

-- values that the order finds equal are the same
pub same_from_cmp : (x y : MediaType) → eq_by_cmp media_cmp x y ≡ true → Same x y
same_from_cmp x y equal =
    let pairs = slice_cmp-IsAntisymmetric (exact_pairs (slice_cmp nat_cmp) (slice_cmp nat_cmp) exact_bytes exact_bytes) in
    let both = exact_pairs _ _ exact_bytes pairs (x.essence, x.pairs) (y.essence, y.pairs) ((Equal-is (media_cmp x y)).0 equal) in
    (λ i. (both i).0, λ i. (both i).1)
