-- Bytes: their classes and tables, the byte at a position of joined bytes, and where a text may be cut at an ASCII byte.
use Rattle.std.proofs.Common.{◌≡◌, ℕ, ◌<◌, Bool, List, get_or, map, ap, sym, ◌∙◌, arith, length, true, suc, ◌+◌, [], ◌∷◌, ◌++◌, Some}
use Rattle.std.proofs.Common.{slice_get, refl, false, ◌==◌, rules}
use Rattle.std.specs.{List.range_with_len, List.list_all, Str.IsUtf8, Str.IsCharBoundary}
use Rattle.std.proofs.lemmas.List.{get_or-map}
use Rattle.std.proofs.lemmas.List.Folds.{list_all-append}
use Rattle.std.proofs.lemmas.List.FromFn.{get_or-map-range_with_len}
use Rattle.std.proofs.lemmas.Bool.{and_parts, and_from}
use Rattle.std.proofs.lemmas.Bool.Decides.{nat_tests}
use Rattle.std.proofs.lemmas.Option.{slice_get_within, get_or_from_slice_get}
use Rattle.std.proofs.lemmas.Str.{IsCharBoundary-after_ascii}
use Rattle.std.specs.Prelude.{IsTrue, IsFalse, ◌==◌, not}
use Rattle.mime.specs.Bytes.{is_token_byte, semicolon_byte, quote_byte}
use Rattle.mime.specs.Grammar.{is_space, AreTokenBytes, IsToken}

-- What a test of a table says of a byte is whether the byte is of the class, if it does byte by byte.
pub in_table : (class test : ℕ → Bool) (table : List ℕ) → map test table ≡ map class (range_with_len 0 256)
    → length table ≡ 256 → (b : ℕ) → b < 256 → test (get_or table b 0) ≡ class b
in_table class test table is size b below =
    sym (get_or-map test table b 0 (class b) (omega (arith, size, below)))
    ∙ ap (λ t. get_or t b (class b)) is ∙ get_or-map-range_with_len class 0 256 b b (class b) (omega arith) (omega arith)

-- A byte after a prefix is the byte at its position in what follows the prefix.
pub slice_get-after : (prefix after : List ℕ) (i n : ℕ) → n ≡ length prefix + i
    → slice_get (prefix ++ after) n ≡ slice_get after i
slice_get-after [] after i n is = ap (slice_get after) (omega (arith, is))
slice_get-after (b ∷ prefix) after i n is =
    let next : n ≡ suc (length prefix + i) = omega (arith, is) in
    ap (slice_get (b ∷ (prefix ++ after))) next ∙ slice_get-after prefix after i (length prefix + i) refl

-- The byte at the end of a prefix is the first of what follows.
pub slice_get-prefix : (prefix : List ℕ) (b : ℕ) (after : List ℕ) (n : ℕ) → n ≡ length prefix
    → slice_get (prefix ++ b ∷ after) n ≡ Some b
slice_get-prefix prefix b after n long = slice_get-after prefix (b ∷ after) 0 n (omega (arith, long))

-- A semicolon is no token byte.
pub semicolon_is_no_token : IsFalse (is_token_byte semicolon_byte)
unfolding is_token_byte
semicolon_is_no_token = refl

-- A quote is no token byte.
pub quote_is_no_token : IsFalse (is_token_byte quote_byte)
unfolding is_token_byte
quote_is_no_token = refl

-- A token byte is no space.
pub token_byte-not_space : (b : ℕ) → IsTrue (is_token_byte b) → IsFalse (is_space b)
unfolding is_token_byte
token_byte-not_space b token = grind (arith, nat_tests)

-- A list of a class is one of a wider class.
pub list_all-wider : (class wider : ℕ → Bool) → ((b : ℕ) → class b ≡ true → wider b ≡ true)
    → (bytes : List ℕ) → list_all class bytes ≡ true → list_all wider bytes ≡ true
list_all-wider class wider within [] all = refl
list_all-wider class wider within (b ∷ bytes) all =
    let parts = and_parts (class b) (list_all class bytes) all in
    and_from (wider b) (list_all wider bytes) (within b parts.0) (list_all-wider class wider within bytes parts.1)

-- The parts of a list of a class are of it.
pub list_all-parts : (class : ℕ → Bool) (prefix back : List ℕ) → list_all class (prefix ++ back) ≡ true
    → (list_all class prefix ≡ true) × (list_all class back ≡ true)
list_all-parts class prefix back all = and_parts (list_all class prefix) _ (sym (list_all-append class prefix back) ∙ all)

-- whether a byte differs from a given one
abbrev pub is_other : ℕ → ℕ → Bool
is_other byte b = not (b == byte)

-- A byte outside a class isn't among bytes of it.
pub are_other : (class : ℕ → Bool) (byte : ℕ) → class byte ≡ false → (bytes : List ℕ) → list_all class bytes ≡ true
    → list_all (is_other byte) bytes ≡ true
are_other class byte out = list_all-wider class (is_other byte) (λ b member. grind (arith, nat_tests, ap class {x = b} {y = byte}))

-- A byte that is no token byte isn't among token bytes.
pub are_other-token : (byte : ℕ) → is_token_byte byte ≡ false → (bytes : List ℕ) → AreTokenBytes bytes
    → list_all (is_other byte) bytes ≡ true
are_other-token = are_other is_token_byte

-- A token isn't empty.
pub token-size : (token : List ℕ) → IsToken token → 0 < length token
token-size token is = search rules

-- A token is token bytes.
pub AreTokenBytes-from_token : (bytes : List ℕ) → IsToken bytes → AreTokenBytes bytes
AreTokenBytes-from_token bytes token = search rules

-- A text may be cut after an ASCII byte.
pub boundary_after : (text : List ℕ) (at b : ℕ) → IsUtf8 text → slice_get text at ≡ Some b → b < 128
    → IsCharBoundary text (at + 1)
boundary_after text at b utf8 there ascii =
    IsCharBoundary-after_ascii text at utf8 (slice_get_within text at b there) (omega (arith, get_or_from_slice_get text at b 0 there))

-- Equal lists have the same first and the same others.
pub cons_parts : {X : Type 0} {x y : X} {xs ys : List X} → x ∷ xs ≡ y ∷ ys → (x ≡ y) × (xs ≡ ys)
cons_parts is = (cc, cc)
