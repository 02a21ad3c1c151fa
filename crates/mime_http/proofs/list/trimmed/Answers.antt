-- Nothing is left out of bytes of which the first and the last are no white space.
use Rattle.std.proofs.Common.{rules}
use Rattle.std.proofs.Common.{arith, get_or, refl, List, [], ℕ, ◌<◌, ◌∷◌, ◌≡◌, false}
use Rattle.mime_http.proofs.Common.{is_space, nat_tests, trim_start}
use Rattle.mime_http.proofs.Around.{nothing_after}
use Rattle.mime_http.proofs.list.trimmed.Goals as goal

-- A byte above a space is no white space.
no_space : (b : ℕ) → 32 < b → is_space b ≡ false
no_space b more = grind (arith, nat_tests, more)

-- Nothing is left out at the start of bytes whose first byte isn't white space.
nothing_before : (bytes : List ℕ) → is_space (get_or bytes 0 0) ≡ false → trim_start bytes ≡ bytes
nothing_before [] other = refl
nothing_before (b ∷ bytes) other = rw other refl

pub returns-then-bytes-gt32-2 : goal.returns-then-bytes-gt32-2
returns-then-bytes-gt32-2 c = search (nothing_before, no_space, nothing_after, rules)
