-- Which tests of some bytes show that all are ASCII.
use Rattle.std.proofs.Common.{◌≡◌, ℕ, ◌+◌, ◌-◌, ◌*◌, ◌<◌, ◌≤◌, Bool, true, false, cond}
use Rattle.std.proofs.Common.{List, [], ◌∷◌, length, take, drop, refl, ap, ◌∙◌, subst, arith}
use Rattle.std.proofs.lemmas.Str.{Ascii.IsAscii-cons, Ascii.IsAscii-nil, IsAscii-append, IsAscii-drop}
use Rattle.std.proofs.lemmas.{List.drop-drop, List.take-append-drop, Bool.Decides.nat_tests}
use Rattle.std.specs.{Str.IsAscii, Int.Bits.or_zero_r}
use Rattle.mime_search.specs.{Classes.is_stop, Classes.stops, declared.text.TheConstants.NOT_ASCII}

-- A byte at which the search doesn't stop is ASCII.
is_low : (b : ℕ) → is_stop NOT_ASCII b ≡ false → b < 128
is_low b passed = grind (arith, nat_tests, or_zero_r b, passed)

-- A mask without a bit has no first bit, and no others.
no_bits : (bit : Bool) (others : ℕ) → cond bit 1 0 + 2 * others ≡ 0 → (bit ≡ false) × (others ≡ 0)
no_bits false others none = (refl, omega (arith, none))
no_bits true others none = absurd (omega (arith, none))

-- Bytes are ASCII if none of them stops the search.
pub ascii_unless_stopped : (bytes : List ℕ) → stops NOT_ASCII bytes ≡ 0 → IsAscii bytes
ascii_unless_stopped [] none = IsAscii-nil
ascii_unless_stopped (b ∷ bytes) none =
    let (first, others) = no_bits (is_stop NOT_ASCII b) (stops NOT_ASCII bytes) none in
    IsAscii-cons b bytes (is_low b first) (ascii_unless_stopped bytes others)

-- If the first bytes and the last ones are ASCII, and there are no others, then all are.
pub ascii_from_ends : (n : ℕ) (bytes : List ℕ) → n ≤ length bytes → length bytes ≤ n + n → IsAscii (take n bytes)
    → IsAscii (drop (length bytes - n) bytes) → IsAscii bytes
ascii_from_ends n bytes room reach first last =
    let from = length bytes - n in
    let over = n + n - length bytes in
    let at : from + over ≡ n = omega (arith, room, reach) in
    let rest : drop over (drop from bytes) ≡ drop n bytes = drop-drop over from bytes ∙ ap (λ k. drop k bytes) at in
    subst IsAscii (take-append-drop n bytes) (IsAscii-append _ _ first (subst IsAscii rest (IsAscii-drop _ over last)))
