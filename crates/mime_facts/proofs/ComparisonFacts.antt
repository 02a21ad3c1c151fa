-- Values and texts for which each definition of equality and order is true, and others for which it is false, by computation.
use Rattle.std.proofs.Common.{◌≡◌, ◌<◌, inl, inr, List, ℕ, true, false, [], ◌∷◌, map, None, refl, ap, ◌∙◌, subst, arith, codes}
use Rattle.std.proofs.lemmas.Bool.{false≢true}
use Rattle.std.specs.{declared.cmp.Ordering.TheVariants.Less, declared.cmp.Ordering.TheVariants.Equal}
use Rattle.std.specs.{declared.cmp.Ordering.TheVariants.Greater, List.slice_index}
use Rattle.std.specs.Prelude.{IsTrue}
use Rattle.mime.specs.{Bytes.is_token_byte, Bytes.is_quoted_byte, Grammar.quoted, Grammar.final, Grammar.listed, Values.MediaType}
use Rattle.mime.specs.{Values.Reads, Difference.FirstDifference, Difference.reaches_value, Difference.DifferInValue, Comparison.Same}
use Rattle.mime.specs.{Comparison.IsListBefore, Comparison.IsTextBefore, Comparison.IsPairBefore, Comparison.Before, Comparison.IsOrderOf}
use Rattle.mime.specs.{Comparison.pair_cmp, Comparison.media_cmp, Comparison.HasNoSemicolon, Comparison.TextIs}
use Rattle.mime.proofs.{GrammarLemmas.Content.IsContent-taken, GrammarLemmas.Readings.one_reading}
use Rattle.mime_facts.proofs.{StandardFacts.media, StandardFacts.reads, ValueFacts.differ, ValueFacts.plain_value}
use Rattle.mime_facts.proofs.{ValueFacts.reads_capitals}

-- Values with one parameter, two of them equal and kept otherwise.
abbrev with_pair : List ℕ → List ℕ → List ℕ → MediaType
with_pair name value kept = media (codes "a/b") 1 None ((name, value) ∷ []) kept

abbrev pub quoted_x : MediaType
quoted_x = with_pair (codes "p") (codes "x") (codes "a/b;p=\"x\"")

abbrev pub plain_x : MediaType
plain_x = with_pair (codes "p") (codes "x") (codes "a/b;p=x")

abbrev pub plain_y : MediaType
plain_y = with_pair (codes "p") (codes "y") (codes "a/b;p=y")

-- A value with a different essence.
abbrev pub other_value : MediaType
other_value = record plain_value { essence = codes "a/c" }

-- The value of the first of some pairs, if there is one.
abbrev value_in : List (List ℕ × List ℕ) → List ℕ
value_in [] = []
value_in ((name, value) ∷ pairs) = value

-- Other essences or other pairs make other values.
equal_values : Same quoted_x plain_x × ¬ (Same plain_x plain_y) × ¬ (Same plain_x plain_value) × ¬ (Same plain_value other_value)
equal_values = (
  (refl, refl),
  (λ is. differ (codes "x") (codes "y") refl (ap value_in is.1)),
  (λ is. differ (codes "x") [] refl (ap value_in is.1)),
  λ is. differ (codes "a/b") (codes "a/c") refl is.0,
)

-- ---- order

-- A list that is a prefix of another is before it; otherwise the first items that differ decide; no list is before itself.
lists_before :
    IsListBefore (λ (x y : ℕ). x < y) [] (1 ∷ []) × IsListBefore (λ (x y : ℕ). x < y) (1 ∷ 2 ∷ []) (1 ∷ 3 ∷ [])
    × ¬ (IsListBefore (λ (x y : ℕ). x < y) [] []) × ¬ (IsListBefore (λ (x y : ℕ). x < y) (1 ∷ []) [])
lists_before = (tt, inr (refl, inl (omega arith)), (λ is. is), λ is. is)

-- A text that is a prefix of another is before it; otherwise the first byte in which they differ decides.
texts_before : IsTextBefore (codes "a") (codes "ab") × IsTextBefore (codes "ab") (codes "b")
texts_before = (inr (refl, tt), inl (omega arith))

-- A longer or greater text isn't before a shorter or lesser one.
longer_after : ¬ (IsTextBefore (codes "ab") (codes "a"))
longer_after (inl less) = absurd (omega (arith, less))
longer_after (inr rest) = rest.1

-- A greater text isn't before a lesser one.
greater_after : ¬ (IsTextBefore (codes "b") (codes "ab"))
greater_after (inl less) = absurd (omega (arith, less))
greater_after (inr rest) = absurd (omega (arith, rest.0))

-- No text is before itself.
none_before_itself : ¬ (IsTextBefore (codes "a") (codes "a"))
none_before_itself (inl less) = absurd (omega (arith, less))
none_before_itself (inr rest) = rest.1

-- Pairs are ordered by their names first.
pairs_before : IsPairBefore (codes "p", codes "y") (codes "q", codes "x") × IsPairBefore (codes "p", codes "x") (codes "p", codes "y")
pairs_before = (inl (inl (omega arith)), inr (refl, inl (omega arith)))

-- The lesser name is first.
lesser_name_first : ¬ (IsPairBefore (codes "q", codes "x") (codes "p", codes "y"))
lesser_name_first (inl (inl less)) = absurd (omega (arith, less))
lesser_name_first (inl (inr rest)) = rest.1
lesser_name_first (inr rest) = differ (codes "q") (codes "p") refl rest.0

-- Values are ordered by their essences first, and one without parameters is before those with some.
values_before : Before plain_y other_value × Before plain_value plain_x × Before plain_x plain_y
values_before = (inl (inr (refl, inr (refl, inl (omega arith)))), inr (refl, tt), inr (refl, inl (inr (refl, inl (omega arith)))))

-- A value without parameters is before one with the same essence and parameters.
bare_first : ¬ (Before plain_x plain_value)
bare_first (inl (inl less)) = absurd (omega (arith, less))
bare_first (inl (inr (a, inl less))) = absurd (omega (arith, less))
bare_first (inl (inr (a, inr (slash, inl less)))) = absurd (omega (arith, less))
bare_first (inl (inr (a, inr (slash, inr rest)))) = rest.1
bare_first (inr rest) = rest.1

-- An answer is the order of two values exactly if it names the one of the three that holds.
orders : IsOrderOf plain_x plain_y Less × IsOrderOf quoted_x plain_x Equal × IsOrderOf plain_y plain_x Greater
orders = (values_before.2, (refl, refl), values_before.2)

-- No other answer is the order of the two values.
no_orders : ¬ (IsOrderOf plain_x plain_value Less) × ¬ (IsOrderOf plain_x plain_value Equal)
    × ¬ (IsOrderOf plain_value plain_x Greater)
no_orders = (bare_first, (λ is. let pairs = is.1 in absurd cc), bare_first)

-- The order as a function says the same.
answers : (pair_cmp (codes "p", codes "y") (codes "q", codes "x") ≡ Less)
    × (pair_cmp (codes "p", codes "y") (codes "p", codes "x") ≡ Greater) × (media_cmp plain_y other_value ≡ Less)
    × (media_cmp quoted_x plain_x ≡ Equal) × (media_cmp plain_x plain_value ≡ Greater)
answers = (refl, refl, refl, refl, refl)

-- ---- a text against a value

-- A text has no semicolon, or has one.
no_semicolon : HasNoSemicolon (codes "a/b") × ¬ (HasNoSemicolon (codes "a/b;"))
no_semicolon = (refl, λ is. false≢true is)

-- The reading of `A/B;P="x"`.
pub reads_quoted : Reads (codes "A/B;P=\"x\"") quoted_x
unfolding is_token_byte is_quoted_byte
reads_quoted =
    reads (codes "A") (codes "B") (listed (final [] (quoted (codes "P") (codes "x") [])))
    (refl, refl, (refl, (refl, IsContent-taken (codes "x") refl refl, refl)))

-- A text is a value without parameters in any case, and a value with some however they are written.
texts_of_values : TextIs plain_value (codes "A/B") × TextIs plain_x (codes "A/B;P=\"x\"")
texts_of_values = (
  record { read = plain_value; reads = reads_capitals; same = (refl, refl); bare = λ none. refl },
  record { read = quoted_x; reads = reads_quoted; same = (refl, refl); bare = λ none. absurd cc },
)

-- A text with a semicolon isn't a value without parameters, although it is read as one.
semicolon_counts : ¬ (TextIs plain_value (codes "a/b;"))
semicolon_counts is = false≢true (is.bare refl)

-- A text with a different parameter isn't the value.
parameter_counts : ¬ (TextIs plain_y (codes "A/B;P=\"x\""))
parameter_counts is =
    differ (codes "y") (codes "x") refl
    (ap value_in (is.same.1 ∙ ap (λ (v : MediaType). v.pairs) (one_reading _ _ _ is.reads reads_quoted)))

-- ---- where texts first differ

-- Two texts that differ ignoring ASCII case at position 2.
differ_at_end : FirstDifference (codes "a/b") (codes "A/c") 2
differ_at_end = record { within = omega arith; within_other = omega arith; equal_before = refl; differ = λ is. absurd (omega (arith, is)) }

-- A difference only in case is none.
case_is_none : ¬ (FirstDifference (codes "a/b") (codes "A/c") 0)
case_is_none is = is.differ refl

-- The end of a text is no difference, nor is anything after a difference.
end_is_none : ¬ (FirstDifference (codes "a") (codes "ab") 1)
end_is_none is = absurd (omega (arith, is.within))

-- Nothing after the first difference is a difference.
later_is_none : ¬ (FirstDifference (codes "ab") (codes "cd") 1)
later_is_none is = differ (codes "a") (codes "c") refl is.equal_before

-- The bytes that don't reach the value are a space, a tab and a quote.
reaching_bytes : map reaches_value (codes "b;= \t\"") ≡ true ∷ true ∷ true ∷ false ∷ false ∷ false ∷ []
reaching_bytes = refl

-- A letter against a letter reaches the value, and neither side of a letter against a quote does.
pub letters_reach_the_value : DifferInValue (codes "a/b") (codes "A/c")
letters_reach_the_value = record { at = 2; first = differ_at_end; reaches = refl; other_reaches = refl }

-- A quote against a letter doesn't reach the value.
no_quote_reaches_it : ¬ (DifferInValue (codes "\"") (codes "x"))
no_quote_reaches_it is =
    let at : is.at ≡ 0 = omega (arith, is.first.within) in
    false≢true (subst (λ n. IsTrue (reaches_value (slice_index (codes "\"") n))) at is.reaches)

-- A letter against a quote doesn't reach the value.
no_quote_reaches_it_there : ¬ (DifferInValue (codes "x") (codes "\""))
no_quote_reaches_it_there is =
    let at : is.at ≡ 0 = omega (arith, is.first.within) in
    false≢true (subst (λ n. IsTrue (reaches_value (slice_index (codes "\"") n))) at is.other_reaches)
