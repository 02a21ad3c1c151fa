-- A text of which parts are lowercased: what holds of it, and that it keeps UTF-8.
use Rattle.std.proofs.Common.{◌≡◌, ℕ, ◌<◌, ◌≤◌, Bool, true, List, [], ◌∷◌, ◌++◌, length, take, drop, refl, sym, ap, ◌∙◌, subst, arith}
use Rattle.std.proofs.Common.{⊎_elim, rules}
use Rattle.std.specs.Prelude.{IsUtf8, ◌&&◌, ◌||◌, nat_le, nat_lt}
use Rattle.std.specs.{Char.to_ascii_lowercase, List.list_all}
use Rattle.std.proofs.{lemmas.Bool.and_parts, lemmas.Bool.cases_lt, lemmas.Bool.Decides.nat_tests, lemmas.Grind.common_steps}
use Rattle.std.proofs.{lemmas.List.take-append-drop, lemmas.Str.IsUtf8-nil, lemmas.Str.IsUtf8-append, lemmas.Str.IsUtf8-encode}
use Rattle.std.proofs.{lemmas.Str.IsUtf8-from_ascii, lemmas.Str.encode_ascii, lemmas.Str.Ascii.IsAscii-cons, lemmas.Str.Ascii.IsAscii-nil}
use Rattle.mime.specs.Values.{lowered}
use Rattle.mime.proofs.{LowercaseLemmas.lowered-lowered, LowercaseLemmas.lowered-append, BytesLemmas.list_all-wider}
use Rattle.mime_search.proofs.IgnoringCase.{length-lowered, lowered-take, lowered-drop}
use lib.Utf8.{scalars, scalar, encodes, encode}

-- the second text is the first with some of its parts lowercased
pub data IsLoweredInPart : List ℕ → List ℕ → Type 0 where
  same : (text : List ℕ) → IsLoweredInPart text text
  lowercase : (text : List ℕ) → IsLoweredInPart text (lowered text)
  in_parts : (prefix back low_prefix low_back : List ℕ) → IsLoweredInPart prefix low_prefix → IsLoweredInPart back low_back
      → IsLoweredInPart (prefix ++ back) (low_prefix ++ low_back)

-- A text lowercased in part has the same lowercased form.
lowered-in_part : (text partly : List ℕ) → IsLoweredInPart text partly → lowered partly ≡ lowered text
lowered-in_part text partly (same _) = refl
lowered-in_part text partly (lowercase _) = lowered-lowered text
lowered-in_part text partly (in_parts prefix back low_prefix low_back first second) =
    lowered-append low_prefix low_back
    ∙ rw (lowered-in_part prefix low_prefix first, lowered-in_part back low_back second) (sym (lowered-append prefix back))

-- A text lowercased in part has the same length.
pub length-in_part : (text partly : List ℕ) → IsLoweredInPart text partly → length partly ≡ length text
length-in_part text partly lowers = sym (length-lowered partly) ∙ ap length (lowered-in_part text partly lowers) ∙ length-lowered text

-- The parts of a text without capitals have none.
low_parts : (prefix back : List ℕ) → lowered (prefix ++ back) ≡ prefix ++ back
    → (lowered prefix ≡ prefix) × (lowered back ≡ back)
low_parts [] back low = (refl, low)
low_parts (b ∷ prefix) back low = let parts = low_parts prefix back (cc) in let first : lowered prefix ≡ prefix =
    parts.0 in (cc, parts.1)

-- A text without capitals stays as it is, lowercased in part.
pub low-in_part : (text partly : List ℕ) → IsLoweredInPart text partly → lowered text ≡ text → partly ≡ text
low-in_part text partly (same _) low = refl
low-in_part text partly (lowercase _) low = low
low-in_part text partly (in_parts prefix back low_prefix low_back first second) low =
    let parts = low_parts prefix back low in
    rw (low-in_part prefix low_prefix first parts.0, low-in_part back low_back second parts.1) refl

-- The lowercased forms of a prefix and of what follows it, taken from the lowercased form of the whole.
pub lowered-parts : (prefix back partly : List ℕ) → lowered partly ≡ lowered (prefix ++ back)
    → (lowered (take (length prefix) partly) ≡ lowered prefix) × (lowered (drop (length prefix) partly) ≡ lowered back)
lowered-parts prefix back partly is = search (common_steps, lowered-append, length-lowered, lowered-take, lowered-drop, rules)

-- bytes below the letters and past ASCII are themselves in any case
abbrev pub is_no_letter : ℕ → Bool
is_no_letter b = nat_lt b 65 || nat_le 128 b

-- Bytes that are no letters are themselves in any case.
pub stays : (text partly : List ℕ) → list_all is_no_letter text ≡ true → lowered partly ≡ lowered text → partly ≡ text
stays [] [] none is = refl
stays (b ∷ text) (c ∷ partly) none is =
    let parts = and_parts (is_no_letter b) (list_all is_no_letter text) none in
    let lowers : to_ascii_lowercase c ≡ to_ascii_lowercase b = cc in
    let byte : c ≡ b = grind (arith, nat_tests, parts.0) in
    cc (byte, stays text partly parts.1 cc)
stays text partly none is = absurd cc

-- The bytes of a character past ASCII are past ASCII, and below 248.
pub high_bytes : (c : ℕ) → scalar c ≡ true → 128 ≤ c → list_all (λ b. nat_le 128 b && nat_lt b 248) (encode c) ≡ true
unfolding encode
high_bytes c is above = search rules

-- A text with the lowercased form of an ASCII character is in UTF-8.
of_ascii : (c : ℕ) (partly : List ℕ) → c < 128 → lowered partly ≡ lowered (c ∷ []) → IsUtf8 partly
of_ascii c (b ∷ []) ascii is =
    let lowers : to_ascii_lowercase b ≡ to_ascii_lowercase c = cc in
    IsUtf8-from_ascii (b ∷ []) (IsAscii-cons b [] (grind (arith, nat_tests)) IsAscii-nil)
of_ascii c partly ascii is = absurd cc

-- A text with the lowercased form of a character is valid UTF-8.
of_character : (c : ℕ) (partly : List ℕ) → scalar c ≡ true → lowered partly ≡ lowered (encode c) → IsUtf8 partly
of_character c partly is low = ⊎_elim
    (λ ascii. of_ascii c partly ascii (low ∙ ap lowered (encode_ascii c ascii)))
    (λ above.
    let none = list_all-wider _ is_no_letter (λ b high. grind (arith, nat_tests)) (encode c) (high_bytes c is above) in
    subst IsUtf8 (sym (stays (encode c) partly none low)) (IsUtf8-encode c is)) (cases_lt c 128)

-- A text with the lowercased form of characters is valid UTF-8.
of_characters : (characters partly : List ℕ) → scalars characters ≡ true → lowered partly ≡ lowered (encodes characters)
    → IsUtf8 partly
of_characters [] [] are is = IsUtf8-nil
of_characters [] (b ∷ partly) are is = absurd cc
of_characters (c ∷ characters) partly are is =
    let parts = and_parts (scalar c) (scalars characters) are in
    let cut = lowered-parts (encode c) (encodes characters) partly is in
    let n = length (encode c) in
    subst IsUtf8 (take-append-drop n partly) (IsUtf8-append (take n partly) (drop n partly)
    (of_character c (take n partly) parts.0 cut.0) (of_characters characters (drop n partly) parts.1 cut.1))

-- A text in UTF-8, lowercased in part, is in UTF-8.
pub IsUtf8-in_part : (text partly : List ℕ) → IsLoweredInPart text partly → IsUtf8 text → IsUtf8 partly
IsUtf8-in_part text partly lowers utf8 =
    of_characters utf8.0 partly utf8.1.0 (lowered-in_part text partly lowers ∙ ap lowered (sym utf8.1.1))
