-- Characters: the longest viable prefix ends between two, and what is passed after it is one.
use Rattle.std.proofs.Common.{◌≡◌, ℕ, List, [], ◌∷◌, ◌++◌, Some, None, sym, ◌∙◌, subst, ◌+◌, ◌<◌, ◌≤◌, true, length, get_or, drop, ap}
use Rattle.std.proofs.Common.{arith, ◌⊎◌, inl, inr, ⊎_elim, length-drop, take, append-nil, length-append, rules}
use Rattle.std.proofs.lemmas.Bool.{cases_lt, and_parts}
use Rattle.std.proofs.lemmas.Bool.Decides.{nat_tests}
use Rattle.std.proofs.lemmas.List.{drop_more}
use Rattle.std.proofs.lemmas.Option.{none-some, same_Some, option_and_then_some, MatchOption-at_some}
use Rattle.std.proofs.lemmas.Str.{IsCharBoundary-start, IsCharBoundary-end, IsCharBoundary-after_ascii, IsUtf8-take, IsUtf8-drop}
use Rattle.std.proofs.lemmas.Str.{IsCharBoundary-past_char, length-encode, len_utf8_bounds}
use Rattle.std.proofs.Math.Seq.{take-append_seam, drop-append_seam}
use Rattle.std.proofs.lemmas.Grind.{common_steps}
use Rattle.std.specs.Prelude.{IsFalse, MatchOption, ◌==◌, IsTrue, ◌&&◌, ◌||◌, nat_le}
use Rattle.std.specs.{Str.IsUtf8, Str.IsCharBoundary, Str.encode_utf8_all, List.list_all, Char.IsScalar, Char.encode_utf8, Char.len_utf8}
use Rattle.mime.specs.Bytes.{is_token_byte, slash_byte, semicolon_byte, equals_byte, quote_byte, space_byte, tab_byte}
use Rattle.mime.specs.Grammar.{is_space}
use Rattle.mime.specs.Laws.{PrefixEndsBetweenCharacters}
use Rattle.mime.specs.Cut.{is_following_byte, IsCharacter}
use Rattle.mime.specs.CutLaws.{PassesOneCharacter}
use Rattle.mime.proofs.GrammarLemmas.Begun.{Closed, Begun, in_type, in_list, in_quotes, list_at, grow, walk, walk_from}
use Rattle.mime.proofs.GrammarLemmas.Content.{takes-high}
use Rattle.mime.proofs.GrammarLemmas.Viability.{by_option, whole_prefix-from_walk, prefix_unique, stop-from_walk, dead-from_stop}
use lib.Utf8.{scalars, scalar}

-- a foreign byte: no token byte, no space and no delimiter
pub record IsForeign (b : ℕ) : Type 0 where
  pub token : IsFalse (is_token_byte b)
  pub space : IsFalse (is_space b)
  pub slash : IsFalse (b == slash_byte)
  pub semicolon : IsFalse (b == semicolon_byte)
  pub equals : IsFalse (b == equals_byte)
  pub quote : IsFalse (b == quote_byte)

-- the begun tree ends in an open quoted value
pub record IsOpen (begun : Begun) : Type 0 where
  pub top : List ℕ
  pub sub : List ℕ
  pub closed : Closed
  pub spaces : List ℕ
  pub name : List ℕ
  pub content : List ℕ
  pub is : begun ≡ in_list top sub (list_at closed (in_quotes spaces name content))

-- From any begun tree a foreign byte leads nowhere, or from open quotes into open quotes.
pub grow-foreign : (begun : Begun) (b : ℕ) → IsForeign b
    → MatchOption (grow begun b) (Unit {0}) (λ next. IsOpen begun × IsOpen next)
grow-foreign begun b foreign = search rules

-- ---- bytes foreign to the grammar

-- A byte that is no tab and isn't from the space to the tilde is no token byte, no space and no delimiter.
pub IsForeign-outside : (b : ℕ) → IsFalse (b == tab_byte || nat_le space_byte b && nat_le b 126) → IsForeign b
unfolding is_token_byte
IsForeign-outside b outside = search rules

-- A byte past ASCII is foreign, too.
pub foreign-from_high : (b : ℕ) → 128 ≤ b → IsForeign b
foreign-from_high b high = IsForeign-outside b (grind (arith, nat_tests))

-- A byte past ASCII that an open quoted value doesn't take begins a character.
high-untaken : (begun : Begun) (b : ℕ) → IsOpen begun → grow begun b ≡ None → 128 ≤ b → 192 ≤ b
high-untaken begun b quotes dead high = search (none-some, in_list, grow, takes-high, rules)

-- ---- the prefix

-- A byte of a text, by what is left from its position on.
byte_at : (text : List ℕ) (at b : ℕ) (rest : List ℕ) → drop at text ≡ b ∷ rest
    → (at < length text) × (get_or text at 0 ≡ b) × (drop (at + 1) text ≡ rest)
byte_at text at b rest left =
    let within : at < length text = omega (arith, length-drop at text, ap length left) in
    let same = sym (drop_more text at 0 within) ∙ left in
    (within, ap (λ t. get_or t 0 0) same, ap (λ t. drop 1 t) same)

-- After a byte that was walked a character ends, or the quotes are open.
border-after : (text : List ℕ) (at b : ℕ) (rest : List ℕ) (begun next : Begun) → IsUtf8 text → drop at text ≡ b ∷ rest
    → grow begun b ≡ Some next → IsCharBoundary text (at + 1) ⊎ IsOpen next
border-after text at b rest begun next utf8 left grown =
    let here = byte_at text at b rest left in
    ⊎_elim (λ ascii. inl (IsCharBoundary-after_ascii text at utf8 here.0 (omega (arith, here.1, ascii))))
    (λ high. inr (MatchOption-at_some (Unit {0}) (λ n. IsOpen begun × IsOpen n) next grown
    (grow-foreign begun b (foreign-from_high b high))).1) (cases_lt b 128)

-- Before a byte that leads nowhere a character ends.
border-before_dead : (text : List ℕ) (at : ℕ) (bytes rest : List ℕ) (b : ℕ) (start begun : Begun) → IsUtf8 text
    → drop at text ≡ bytes ++ (b ∷ rest) → walk_from start bytes ≡ Some begun → grow begun b ≡ None
    → IsCharBoundary text at ⊎ IsOpen start → IsCharBoundary text (at + length bytes)
border-before_dead text at [] rest b start begun utf8 left walked dead border =
    let here = byte_at text at b rest left in
    let sum : at ≡ at + 0 = omega arith in
    let dead_here = subst (λ s. grow s b ≡ None) (sym (same_Some start begun walked)) dead in
    subst (IsCharBoundary text) sum (⊎_elim (λ ends. ends)
    (λ quotes. (
      omega (arith, here.0),
      λ within above.
          omega (arith, here.1, high-untaken start b quotes dead_here (omega (arith, here.1, above))),
    ))
    border)
border-before_dead text at (c ∷ bytes) rest b start begun utf8 left walked dead border =
    option_and_then_some (λ next. walk_from next bytes) (grow start c) begun walked
    (λ next grown goes.
    let sum : at + 1 + length bytes ≡ at + length (c ∷ bytes) = omega arith in
    subst (IsCharBoundary text) sum
    (border-before_dead text (at + 1) bytes rest b next begun utf8 (byte_at text at c (bytes ++ (b ∷ rest)) left).2 goes dead
    (border-after text at c (bytes ++ (b ∷ rest)) start next utf8 left grown)))

-- The longest viable prefix ends between characters.
pub prefix_ends_between_characters : PrefixEndsBetweenCharacters
prefix_ends_between_characters text count utf8 prefix =
    by_option (walk text)
    (λ stopped.
    let stop = stop-from_walk (in_type []) text stopped in
    let same = prefix_unique text (length stop.prefix) count (dead-from_stop text stop).prefix prefix in
    let sum : 0 + length stop.prefix ≡ count = omega (arith, same) in
    subst (IsCharBoundary text) sum
    (border-before_dead text 0 stop.prefix stop.rest stop.byte (in_type []) stop.begun utf8 stop.spelled stop.walked stop.dead
    (inl (IsCharBoundary-start text utf8))))
    (λ begun walked.
    subst (IsCharBoundary text) (prefix_unique text (length text) count (whole_prefix-from_walk text begun walked) prefix)
    (IsCharBoundary-end text))

-- A byte that only follows is from 128 to 191.
pub following-low : (b : ℕ) → IsTrue (is_following_byte b) → (128 ≤ b) × (b < 192)
following-low b follows = (grind (arith, nat_tests, follows), grind (arith, nat_tests, follows))

-- A text may be cut after a character.
character-border : (c l : List ℕ) → IsCharacter c l → IsCharBoundary (c ++ l) (length c)
character-border c l one = grind (arith, common_steps)

-- Between the bytes of a character a text may not be cut.
no-border : (b : ℕ) (f : List ℕ) (i : ℕ) → IsTrue (list_all is_following_byte f) → 1 ≤ i → i < length (b ∷ f)
    → IsCharBoundary (b ∷ f) i → ⊥
no-border b f i all above within border = grind (arith, common_steps)

-- The bytes of a character in valid UTF-8 are one character.
single : (c l : List ℕ) → IsCharacter c l → IsUtf8 c → (char : ℕ) × IsScalar char × (c ≡ encode_utf8 char)
single [] l one utf8 = absurd one
single (b ∷ f) l one utf8 = by_chars utf8.0 utf8.1.0 utf8.1.1
  where
    by_chars : (cs : List ℕ) → scalars cs ≡ true → encode_utf8_all cs ≡ b ∷ f
        → (char : ℕ) × IsScalar char × (b ∷ f ≡ encode_utf8 char)
    by_chars [] are e = absurd (omega (arith, ap length e))
    by_chars (x ∷ []) are e = (x, (and_parts (scalar x) (scalars []) are).0, sym e ∙ append-nil (encode_utf8 x))
    by_chars (x ∷ (y ∷ ys)) are e =
        let rest = encode_utf8_all (y ∷ ys) in
        let bounds = len_utf8_bounds x in
        let more = len_utf8_bounds y in
        let size = length-append (encode_utf8 x) rest in
        let size_rest = length-append (encode_utf8 y) (encode_utf8_all ys) in
        let whole = ap length e in
        let border = IsCharBoundary-past_char (b ∷ f) rest 0 x (omega arith) utf8 (sym e) in
        absurd (no-border b f (0 + len_utf8 x) one.0 (omega (arith, bounds.0))
        (omega (arith, size, size_rest, whole, length-encode x, length-encode y, more.0)) border)

-- What is passed in valid UTF-8 is one character.
pub passes_one_character : PassesOneCharacter
passes_one_character text p c l utf8 split =
    let border = prefix_ends_between_characters text (length p) utf8 split.prefix in
    let piece : IsUtf8 p =
    subst IsUtf8 (ap (take (length p)) split.spelled ∙ take-append_seam p (c ++ l)) (IsUtf8-take text (length p) utf8 border) in
    let others : IsUtf8 (c ++ l) =
    subst IsUtf8 (ap (drop (length p)) split.spelled ∙ drop-append_seam p (c ++ l)) (IsUtf8-drop text (length p) utf8 border) in
    let cut = character-border c l split.is_character in
    let whole : IsUtf8 c = subst IsUtf8 (take-append_seam c l) (IsUtf8-take (c ++ l) (length c) others cut) in
    let left : IsUtf8 l = subst IsUtf8 (drop-append_seam c l) (IsUtf8-drop (c ++ l) (length c) others cut) in
    let one = single c l split.is_character whole in
    (one.0, one.1, one.2, piece, left)
