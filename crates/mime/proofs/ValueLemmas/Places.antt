-- A word says where the plus is, since that is never at position 0, and one where the essence ends, since a kept text has a semicolon
-- exactly if it has a pair. And a text that is read as a value with a parameter has its parts where that value has them.
use Rattle.std.proofs.Common.{◌≡◌, ℕ, List, [], ◌∷◌, length, Some, refl, ap, sym, ◌∙◌, subst, arith, rules}
use Rattle.std.specs.Prelude.{◌≢◌}
use Rattle.mime.specs.Grammar.{Tail, no_list, listed, text_of}
use Rattle.mime.specs.Values.{MediaType, Reads, kept_text, lowered_tree, pairs_of_tail}
use Rattle.mime.specs.Inner.Scanning.{positions_of}
use Rattle.mime.specs.Inner.KeptText.{IsKept, media_of, kept_semicolon}
use Rattle.mime.specs.Inner.ComparedText.{positions_before_list}
use Rattle.mime.specs.declared.scan.Positions.{Positions}
use Rattle.mime.proofs.LowercaseLemmas.{positions_of-lowered_tree, IsWellFormed-lowered_tree}
use Rattle.mime.proofs.GrammarLemmas.Readings.{one_tree}
use Rattle.mime.proofs.ValueLemmas.KeptText.{value_of_low, reads-from_kept, value_of-lowering, length-essence_of}
use Rattle.mime.proofs.ValueLemmas.Parts.{plus_in}

-- The plus of a kept text isn't at position 0.
pub plus-not_zero : (text : List ℕ) (positions : Positions) → IsKept text positions → positions.plus ≢ Some 0
plus-not_zero text positions is_kept is =
    let at = plus_in text _ (media_of text positions) 0 (reads-from_kept text positions is_kept) refl is in
    absurd (omega (arith, at.above))

-- the positions of a value's parts in its kept text, if it has a parameter
abbrev value_positions : MediaType → Positions
value_positions value = record (positions_before_list value) { pair_count = length value.pairs }

-- A text that is read as a value with a parameter, and is its kept text, is kept so.
pub read-kept : (text : List ℕ) (value : MediaType) → Reads text value → value.kept ≡ text → length value.pairs ≢ 0
    → IsKept text (value_positions value)
read-kept text value reads kept some =
    let tree = reads.tree in
    let low = lowered_tree tree in
    record {
      has = record {
        tree = tree;
        well_formed = reads.well_formed;
        spelled = reads.spelled;
        same_positions = sym (positions_of-lowered_tree tree)
            ∙ placed low.top low.sub low.tail value (sym (value_of-lowering tree) ∙ reads.valued) some;
      };
      low = one_tree low tree (IsWellFormed-lowered_tree tree reads.well_formed) reads.well_formed
          (whole (pairs_of_tail low.tail) (ap (λ (v : MediaType). length v.pairs) reads.valued)
          (ap (λ (v : MediaType). v.kept) reads.valued) ∙ sym reads.spelled);
      kept = ap (λ at. record (value_positions value) { semicolon = at }) (stays_there (length value.pairs) some);
    }
  where
    placed : (top sub : List ℕ) (tail : Tail) (value : MediaType)
        → value_of_low (record { top = top; sub = sub; tail = tail }) ≡ value → length value.pairs ≢ 0
        → positions_of (record { top = top; sub = sub; tail = tail }) ≡ value_positions value
    placed top sub no_list value is some = absurd (some (sym (ap (λ (v : MediaType). length v.pairs) is)))
    placed top sub (listed list) value is some =
        subst (λ (v : MediaType). positions_of (record { top = top; sub = sub; tail = listed list }) ≡ value_positions v) is
        (rw (length-essence_of (record { top = top; sub = sub; tail = listed list })) refl)

    whole : (pairs : List (List ℕ × List ℕ)) → length pairs ≡ length value.pairs
        → kept_text pairs (lowered_tree reads.tree) ≡ value.kept → text_of (lowered_tree reads.tree) ≡ text
    whole [] none is = absurd (some (sym none))
    whole (pair ∷ pairs) none is = is ∙ kept

    stays_there : (count : ℕ) → count ≢ 0 → kept_semicolon count (Some (length value.essence)) ≡ Some (length value.essence)
    stays_there count above = search rules
