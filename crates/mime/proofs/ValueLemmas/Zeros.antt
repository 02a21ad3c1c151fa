-- The zeros that follow a short text.
use Rattle.std.proofs.Common.{◌≡◌, ℕ, zero, suc, ◌+◌, ◌-◌, ◌≤◌, List, ◌∷◌, ◌++◌, length, map, take, drop, replicate, refl, ap, ap₂, sym}
use Rattle.std.proofs.Common.{◌∙◌, rules}
use Rattle.std.specs.Char.{to_ascii_lowercase}
use Rattle.std.proofs.Math.Nat.{add-sub_of_le}
use Rattle.std.proofs.lemmas.List.{drop_at, drop-replicate, drop-take, length-take-le, take-append-drop, take-replicate}

-- After a text that is copied over the first of some zeros, zeros are left.
pub zeros-after : (text copied : List ℕ) (size : ℕ) → copied ≡ text
    → drop (length text) (copied ++ drop (length text) (replicate size 0)) ≡ replicate (size - length text) 0
zeros-after text copied size same = drop_at copied _ (length text) (ap length same) ∙ drop-replicate (length text) size 0

-- They have no case.
pub zeros-lowercase : (count : ℕ) → map to_ascii_lowercase (replicate count 0) ≡ replicate count 0
zeros-lowercase zero = refl
zeros-lowercase (suc count) = ap (λ bytes. 0 ∷ bytes) (zeros-lowercase count)

-- After a position in a block that has zeros from there on, its first bytes have zeros, too.
pub zeros-within : (block : List ℕ) (len size more : ℕ) → len ≤ size → drop len block ≡ replicate (size + more - len) 0
    → drop len (take size block) ≡ replicate (size - len) 0
zeros-within block len size more within zeros = search (add-sub_of_le, drop-take, take-replicate, rules)

-- Two texts that fill as many bytes with them are the same only if all bytes are.
pub zeros-same : (bytes others : List ℕ) (len other size : ℕ) → len ≤ length bytes → other ≤ length others
    → drop len bytes ≡ replicate (size - len) 0 → drop other others ≡ replicate (size - other) 0
    → take len bytes ≡ take other others → (len ≡ other) × (bytes ≡ others)
zeros-same bytes others len other size within also zeros more same =
    let lengths = sym (length-take-le len bytes within) ∙ ap length same ∙ length-take-le other others also in (
      lengths,
      sym (take-append-drop len bytes) ∙ ap₂ (λ x y. x ++ y) same (zeros ∙ ap (λ n. replicate (size - n) 0) lengths ∙ sym more)
          ∙ take-append-drop other others,
    )
