-- How media types compare: which are equal, and which is before which.
use Rattle.std.specs.Prelude.{◌≡◌, ℕ, ◌<◌, ◌⊎◌, List, [], ◌∷◌, IsTrue, not, ◌==◌, ⊤}
use Rattle.std.specs.List.{list_all}
use Rattle.std.specs.declared.cmp.Ordering.{Ordering}
use Rattle.std.specs.Cmp.Lexicographic.{slice_cmp}
use Rattle.std.specs.Ordering.{MatchOrdering, nat_cmp, on, then_cmp}
use Rattle.mime.specs.Bytes.{semicolon_byte}
use Rattle.mime.specs.Values.{MediaType, Reads}

-- two values are equal: they have the same essence, and the same pairs in the same order. Their kept texts may differ
abbrev pub Same : MediaType → MediaType → Type 0
Same first second = (first.essence ≡ second.essence) × (first.pairs ≡ second.pairs)

-- a list is before another: after items that are the same it ends first, or has the lesser item
abbrev pub IsListBefore : {X : Type 0} → (X → X → Type 0) → List X → List X → Type 0
IsListBefore IsLess [] [] = ⊥
IsListBefore IsLess [] (y ∷ ys) = ⊤
IsListBefore IsLess (x ∷ xs) [] = ⊥
IsListBefore IsLess (x ∷ xs) (y ∷ ys) = IsLess x y ⊎ ((x ≡ y) × IsListBefore IsLess xs ys)

-- a text is before another: by its bytes
abbrev pub IsTextBefore : List ℕ → List ℕ → Type 0
IsTextBefore first second = IsListBefore (λ x y. x < y) first second

-- a pair is before another: by its name, and among pairs of one name by its value
abbrev pub IsPairBefore : List ℕ × List ℕ → List ℕ × List ℕ → Type 0
IsPairBefore (name, value) (other, content) = IsTextBefore name other ⊎ ((name ≡ other) × IsTextBefore value content)

-- a value is before another: by its essence, and among values of one essence by its list of pairs
abbrev pub Before : MediaType → MediaType → Type 0
Before first second = IsTextBefore first.essence second.essence
    ⊎ ((first.essence ≡ second.essence) × IsListBefore IsPairBefore first.pairs second.pairs)

-- an answer says how two values compare: the first is before the second, they are equal, or the second is before the first
abbrev pub IsOrderOf : MediaType → MediaType → Ordering → Type 0
IsOrderOf first second answer = MatchOrdering answer (Before first second) (Same first second) (Before second first)

-- the order of pairs as a function: by name, and then by value
abbrev pub pair_cmp : List ℕ × List ℕ → List ℕ × List ℕ → Ordering
pair_cmp = then_cmp (on (λ pair. pair.0) (slice_cmp nat_cmp)) (on (λ pair. pair.1) (slice_cmp nat_cmp))

-- the order of values as a function, for `Ord`: by essence, and then by the list of pairs
abbrev pub media_cmp : MediaType → MediaType → Ordering
media_cmp = then_cmp (on (λ media. media.essence) (slice_cmp nat_cmp)) (on (λ media. media.pairs) (slice_cmp pair_cmp))

-- the text has no semicolon
abbrev pub HasNoSemicolon : List ℕ → Type 0
HasNoSemicolon text = IsTrue (list_all (λ b. not (b == semicolon_byte)) text)

-- a text is equal to a value: it is read as an equal value and, if the value has no pairs, it has no semicolon
pub record TextIs (value : MediaType) (text : List ℕ) : Type 0 where
  pub read : MediaType
  pub reads : Reads text read
  pub same : Same value read
  pub bare : value.pairs ≡ [] → HasNoSemicolon text
