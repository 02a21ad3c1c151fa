-- How a text begins: its first character, and its first piece.
use Rattle.std.proofs.lemmas.Grind.{common_steps}
use Rattle.std.proofs.lemmas.Bool.{cases_Bool, cases_lt, and_parts, not-true, cond-false}
use Rattle.std.proofs.lemmas.Bool.Decides.{nat_tests}
use Rattle.std.proofs.lemmas.List.{take-append-drop, length-take-le, drop-drop, take_at, drop_at}
use Rattle.std.proofs.lemmas.Option.{slice_get_within}
use Rattle.std.proofs.lemmas.Str.{IsCharBoundary-from_rest, IsCharBoundary-from_take, IsUtf8-from_ascii}
use Rattle.std.proofs.Common.{◌≡◌, ◌≢◌, ℕ, zero, suc, ◌+◌, ◌-◌, ◌<◌, ◌≤◌, false, inl, inr, length-append, IsAscii, List, [], ◌∷◌, ◌++◌}
use Rattle.std.proofs.Common.{length, take, drop, Option, Some, None, MatchOption, refl, sym, ap, ◌∙◌, subst, arith, ⊎_elim, length-drop}
use Rattle.std.proofs.Common.{rules}
use Rattle.std.specs.Prelude.{IsTrue, IsFalse, ◌&&◌, nat_lt}
use Rattle.std.specs.{List.list_all, Str.IsUtf8, Str.IsCharBoundary}
use Rattle.mime.specs.Bytes.{is_token_byte}
use Rattle.mime.specs.Inner.ByteClasses.{is_ascii_not_token}
use Rattle.mime.specs.Values.{IsAccepted, IsRejected}
use Rattle.mime.specs.Faults.{IsViable, IsLongestPrefix, IsDeadAt}
use Rattle.mime.specs.Cut.{is_following_byte, BeginsCharacter, IsCharacter, IsSplit, CutItem, good, bad, ItemsOf, is_read, is_rejected}
use Rattle.mime.specs.Cut.{is_empty, Cut, whole, unfinished, goes_on, TakesSteps}
use Rattle.mime.specs.Inner.Remaining.{Remaining}
use Rattle.mime.specs.Inner.Scanning.{HasPositions, StopsAt, Judges, Scans}
use Rattle.mime.specs.Inner.BetweenCalls.{IsUnderWay, IsFirstPiece, ReadsPiece}
use Rattle.mime.specs.declared.scan.fault.ParseError.{ParseError}
use Rattle.mime.specs.declared.scan.Positions.{Positions}
use Rattle.mime.specs.declared.scan.Scanned.{Scanned}
use Rattle.mime.specs.declared.scan.Scanned.TheVariants.{Accepted, Unfinished}
use Rattle.mime.proofs.GrammarLemmas.Characters.{prefix_ends_between_characters}
use Rattle.mime.proofs.CutLemmas.Cuts.{empty-rejected, empty-cut, split-size, split-from_dead, cut_unique, takes-split, takes-viable}
use Rattle.mime.proofs.CutLemmas.Cuts.{takes_unique}
use Rattle.mime.proofs.GrammarLemmas.Begun.{in_type}
use Rattle.mime.proofs.ValueLemmas.Reading.{accepted-from_positions, rejected-from_fault}
use Rattle.mime.proofs.GrammarLemmas.Viability.{accepted_is_viable, empty_is_viable}

-- ---- the first character of a text

-- the rest of a text after its first character
abbrev IsAfterCharacter : List ℕ → List ℕ → Type 0
IsAfterCharacter text left = (character : List ℕ) × (text ≡ character ++ left) × IsCharacter character left

-- A byte that follows is none before which a text may be cut.
not_following : (b : ℕ) (bytes : List ℕ) → IsCharBoundary (b ∷ bytes) 0 → IsFalse (is_following_byte b)
not_following b bytes border = search rules

-- All bytes follow up to the first position where a text may be cut.
follow_to : (bytes : List ℕ) (n : ℕ) → IsCharBoundary bytes n → ((j : ℕ) → j < n → ¬ (IsCharBoundary bytes j))
    → IsTrue (list_all is_following_byte (take n bytes)) × BeginsCharacter (drop n bytes)
follow_to [] zero border none = (refl, tt)
follow_to [] (suc n) border none = (refl, tt)
follow_to (b ∷ bytes) zero border none = (refl, not_following b bytes border)
follow_to (b ∷ bytes) (suc n) border none =
    let rest = follow_to bytes n (omega (arith, border.0), λ within high. border.1 (omega (arith, within)) high)
    (λ j before cut. none (suc j) (omega (arith, before)) (omega (arith, cut.0), λ within high. cut.1 (omega (arith, within)) high)) in
    (ap (λ x. x && list_all is_following_byte (take n bytes)) (follows b bytes (none 0 (omega arith))) ∙ rest.0, rest.1)
  where
    follows : (b : ℕ) (bytes : List ℕ) → ¬ (IsCharBoundary (b ∷ bytes) 0) → IsTrue (is_following_byte b)
    follows b bytes none =
        ⊎_elim (λ is. is) (λ isnt. absurd (none (omega arith, λ within high. grind (arith, nat_tests, isnt, high))))
        (cases_Bool (is_following_byte b))

-- The text from the first position after its first byte where it may be cut is the rest after its first character.
after_character : (text : List ℕ) (at : ℕ) → 0 < length text → 1 ≤ at → IsCharBoundary text at
    → ((i : ℕ) → 1 ≤ i → i < at → ¬ (IsCharBoundary text i)) → IsAfterCharacter text (drop at text)
after_character [] at some past border none = absurd (omega arith)
after_character (b ∷ bytes) zero some past border none = absurd (omega arith)
after_character (b ∷ bytes) (suc n) some past border none = (
  b ∷ take n bytes,
  ap (λ t. b ∷ t) (sym (take-append-drop n bytes)),
  follow_to bytes n (omega (arith, border.0), λ within high. border.1 (omega (arith, within)) high)
      (λ j before cut. none (suc j) (omega arith) (omega (arith, before)) (
        omega (arith, cut.0),
        λ within high. cut.1 (omega (arith, within)) high,
      )),
)

-- ---- the first piece of a text

-- What the scanner found judges a text, also if its reader counted on from somewhere.
pub judged-from_scan : (old new : Remaining) (text : List ℕ) (from steps : ℕ) (verdict : Scanned) → Scans old new verdict
    → old.left ≡ text → old.count ≡ from → steps ≡ new.count → Judges text (steps - from) verdict
judged-from_scan old new text from steps verdict scans left begin end = rw (left, begin, sym end) at scans.judged

-- A text may be cut where a scan of it stopped, which isn't its end.
pub stopped-boundary : (text : List ℕ) (steps at byte : ℕ) (positions : Option Positions) → IsUtf8 text
    → StopsAt text steps byte positions → at ≡ steps - 1 → IsCharBoundary text at × (0 < length (drop at text))
stopped-boundary text steps at byte positions utf8 (some, dead, before) is_at = (
  rw is_at (prefix_ends_between_characters text (steps - 1) utf8 dead.prefix),
  omega (arith, length-drop at text, is_at, slice_get_within text (steps - 1) byte dead.there),
)

-- A text that was read to its end.
under_way-viable : (text : List ℕ) → IsViable text → IsUnderWay text [] false (length text)
under_way-viable text viable = record {
  few = omega arith;
  exact = λ fed n takes.
      let none : n ≡ 0 = takes_unique [] n 0 takes (takes-viable [] empty_is_viable) in
      subst (TakesSteps text) (omega (arith, none)) (takes-viable text viable);
}

-- An accepted text is its first piece.
pub passes-whole : (text : List ℕ) (positions : Positions) (steps : ℕ) → Judges text steps (Accepted positions)
    → ReadsPiece text text (Some positions) [] steps
passes-whole text positions steps (is, has) =
    let accepted = accepted-from_positions text positions has in
    record {
      empty = λ none. absurd (empty-rejected (subst IsAccepted none accepted));
      item = λ some. (
        has,
        λ value reads items rest cut.
            let same = cut_unique [] [] [] empty-cut items rest cut in
            subst (Cut text (good text value ∷ items)) (sym same.1)
            (subst (λ i. Cut text (good text value ∷ i) []) (sym same.0) (whole text value reads)),
      );
      less = λ some. some;
      under_way = subst (IsUnderWay text [] false) (sym is) (under_way-viable text (accepted_is_viable text accepted));
    }

-- An unfinished text has no piece.
pub passes-unfinished : (text : List ℕ) (fault : ParseError) (steps : ℕ) → Judges text steps (Unfinished fault)
    → ReadsPiece text [] None [] steps
passes-unfinished text fault steps (is, fault_is, viable) = record {
  empty = λ e. record {
    carries = λ some. absurd (some refl);
    ends = λ end. (text, unfinished text viable (rejected-from_fault text fault fault_is));
  };
  item = λ some. absurd (some refl);
  less = λ some. some;
  under_way = subst (IsUnderWay text [] false) (sym is) (under_way-viable text viable);
}

-- A character that can't follow ends the piece.
passes-split : (text piece character left : List ℕ) (positions : Option Positions) → IsSplit text piece character left
    → MatchOption positions (IsRejected piece) (λ p. HasPositions piece p) → ReadsPiece text piece positions left (length piece + 1)
passes-split text piece character left positions split is =
    let size = split-size text piece character left split in
    record {
      empty = λ none. record {
        carries = λ some items rest cut. on [] (is_empty none) items rest cut;
        ends = λ end. ([], on [] (is_empty none) [] [] (subst (λ t. Cut t [] []) (sym end) empty-cut));
      };
      item = first positions is;
      less = λ some. omega (arith, size.0, size.1);
      under_way = record {
        few = omega (arith, size.0, size.1);
        exact = λ fed n takes. takes-split text piece character left n split takes;
      };
    }
  where
    on : (first : List CutItem) → ItemsOf piece first → (items : List CutItem) (rest : List ℕ) → Cut left items rest
        → Cut text (first ++ items) rest
    on first of_piece items rest cut = goes_on text piece character left first items rest split of_piece cut

    first : (positions : Option Positions) → MatchOption positions (IsRejected piece) (λ p. HasPositions piece p) → piece ≢ []
        → IsFirstPiece text piece positions left
    first None is some = on (bad piece ∷ []) (is_rejected is some)
    first (Some p) has some = (has, λ value reads. on (good piece value ∷ []) (is_read value reads))

-- A text may be cut in what follows a position where it may be cut after that position.
border_in_rest : (text : List ℕ) (at n : ℕ) → IsCharBoundary text (at + n) → IsCharBoundary (drop at text) n
border_in_rest text at n border = grind (arith, common_steps)

-- The text from the first position after a given one where it may be cut is the rest after the character there.
after_position : (text : List ℕ) (at end : ℕ) → at < length text → at + 1 ≤ end → IsCharBoundary text end
    → ((i : ℕ) → at + 1 ≤ i → i < end → ¬ (IsCharBoundary text i)) → IsAfterCharacter (drop at text) (drop end text)
after_position text at end there past border near =
    let at_end : at + (end - at) ≡ end = omega (arith, past) in
    subst (IsAfterCharacter (drop at text)) (drop-drop (end - at) at text ∙ ap (λ n. drop n text) at_end)
    (after_character (drop at text) (end - at) (omega (arith, there, length-drop at text)) (omega (arith, past))
    (border_in_rest text at (end - at) (subst (IsCharBoundary text) (sym at_end) border))
    (λ i one before cut.
    near (at + i) (omega (arith, one)) (omega (arith, before)) (IsCharBoundary-from_rest text at i (omega (arith, there)) cut)))

-- A text is split where the scanner stops.
pub passes-stopped : (text piece left : List ℕ) (steps at end byte : ℕ) (positions : Option Positions)
    → StopsAt text steps byte positions → at ≡ steps - 1 → piece ≡ take at text → left ≡ drop end text
    → (at + 1 ≤ length text → at + 1 ≤ end) → IsCharBoundary text end
    → ((i : ℕ) → at + 1 ≤ i → i < end → ¬ (IsCharBoundary text i)) → ReadsPiece text piece positions left steps
passes-stopped text piece left steps at end byte positions (given, dead_at, rejected) is_at is_piece is_left past border near =
    let dead = subst (λ n. IsDeadAt text n byte) (sym is_at) dead_at in
    let size : length (take at text) ≡ at = length-take-le at text dead.prefix.within in
    let there : at < length text = slice_get_within text at byte dead.there in
    let after = after_position text at end there (past (omega (arith, there))) border near in
    subst (λ p. ReadsPiece text p positions left steps) (sym is_piece)
    (subst (ReadsPiece text (take at text) positions left) (omega (arith, given, is_at, size))
    (passes-split text (take at text) after.0 left positions (record {
      spelled = sym (take-append-drop at text) ∙ ap (λ t. take at text ++ t) (after.1 ∙ ap (λ t. after.0 ++ t) (sym is_left));
      prefix = subst (IsLongestPrefix text) (sym size) dead.prefix;
      is_character = subst (IsCharacter after.0) (sym is_left) after.2;
    }) (rw is_at rejected)))

-- ---- separators before a piece

-- separators, and what follows them
module _ (rest : List ℕ) (begins : BeginsCharacter rest) where
  -- after a separator begins a character
  begins_after : (run : List ℕ) → IsTrue (list_all is_ascii_not_token run) → BeginsCharacter (run ++ rest)
  begins_after [] all = begins
  begins_after (b ∷ run) all =
      let separator = (and_parts (is_ascii_not_token b) _ all).0 in grind (arith, nat_tests, separator)

  -- a separator is passed
  separator_splits : (b : ℕ) (run : List ℕ) → IsTrue (list_all is_ascii_not_token (b ∷ run))
      → IsSplit (b ∷ (run ++ rest)) [] (b ∷ []) (run ++ rest)
  separator_splits b run all =
      let parts = and_parts (is_ascii_not_token b) (list_all is_ascii_not_token run) all in
      let other : is_token_byte b ≡ false = not-true _ (and_parts (nat_lt b 128) _ parts.0).1 in
      split-from_dead [] (run ++ rest) b (in_type [])
      (record { following = []; left = run ++ rest; spelled = refl; of_class = refl; begins = begins_after run parts.1 }) refl
      (cond-false (is_token_byte b) _ _ other)

  -- the cut of what follows separators is that of the whole
  separated-cut : (run : List ℕ) → IsTrue (list_all is_ascii_not_token run) → (items : List CutItem) (end : List ℕ)
      → Cut rest items end → Cut (run ++ rest) items end
  separated-cut [] all items end cut = cut
  separated-cut (b ∷ run) all items end cut =
      goes_on (b ∷ (run ++ rest)) [] (b ∷ []) (run ++ rest) [] items end (separator_splits b run all) (is_empty refl)
      (separated-cut run (and_parts (is_ascii_not_token b) _ all).1 items end cut)

  -- each separator takes a step
  separated-steps : (run : List ℕ) → IsTrue (list_all is_ascii_not_token run) → (n : ℕ) → TakesSteps rest n
      → TakesSteps (run ++ rest) (length run + n)
  separated-steps [] all n takes = subst (TakesSteps rest) (omega arith) takes
  separated-steps (b ∷ run) all n takes =
      subst (TakesSteps (b ∷ (run ++ rest))) (omega arith)
      (takes-split (b ∷ (run ++ rest)) [] (b ∷ []) (run ++ rest) (length run + n) (separator_splits b run all)
      (separated-steps run (and_parts (is_ascii_not_token b) _ all).1 n takes))

  -- the first piece of what follows separators is that of the whole
  separated-first : (run : List ℕ) → IsTrue (list_all is_ascii_not_token run)
      → (piece : List ℕ) (positions : Option Positions) (left : List ℕ)
      → IsFirstPiece rest piece positions left → IsFirstPiece (run ++ rest) piece positions left
  separated-first run all piece None left first = λ items end cut. separated-cut run all _ end (first items end cut)
  separated-first run all piece (Some positions) left (has, first) =
      (has, λ value reads items end cut. separated-cut run all _ end (first value reads items end cut))

  -- a piece is read after separators
  pub separated-piece : (run : List ℕ) → IsTrue (list_all is_ascii_not_token run)
      → (piece : List ℕ) (positions : Option Positions) (left : List ℕ)
      (steps : ℕ) → ReadsPiece rest piece positions left steps → ReadsPiece (run ++ rest) piece positions left (length run + steps)
  separated-piece run all piece positions left steps reads =
      let size = length-append run rest in
      record {
        empty = λ none.
            let on = reads.empty none in
            record {
              carries = λ some items end cut. separated-cut run all items end (on.carries some items end cut);
              ends = λ end. let no_item = on.ends end in (no_item.0, separated-cut run all [] no_item.0 no_item.1);
            };
        item = λ some. separated-first run all piece positions left (reads.item some);
        less = λ some.
            elim (cases_lt 0 (length rest)) [
              | inl longer ↦ omega (arith, reads.less longer, size)
              | inr none ↦ omega (arith, none, reads.under_way.few, some)
            ];
        under_way = record {
          few = omega (arith, reads.under_way.few, size);
          exact = λ fed n takes.
              subst (TakesSteps (run ++ rest)) (omega arith) (separated-steps run all (steps + n) (reads.under_way.exact fed n takes));
        };
      }

-- Nothing is read of the empty text.
pub passes-nothing : ReadsPiece [] [] None [] 0
passes-nothing = record {
  empty = λ none. record { carries = λ some. absurd (some refl); ends = λ end. ([], empty-cut) };
  item = λ some. absurd (some refl);
  less = λ some. some;
  under_way = under_way-viable [] empty_is_viable;
}

-- Separators are ASCII.
separators_are_ascii : (run : List ℕ) → IsTrue (list_all is_ascii_not_token run) → IsAscii run
separators_are_ascii run all = grind (arith, nat_tests, common_steps)

-- A text may be cut after separators.
pub separators-boundary : (text run rest : List ℕ) → IsUtf8 text → text ≡ run ++ rest → IsTrue (list_all is_ascii_not_token run)
    → IsCharBoundary text (length run)
separators-boundary text run rest utf8 is all =
    IsCharBoundary-from_take text (length run) utf8 (omega (arith, ap length is, length-append run rest))
    (subst IsUtf8 (sym (ap (take (length run)) is ∙ take_at run rest (length run) refl))
    (IsUtf8-from_ascii run (separators_are_ascii run all)))

-- What follows separators begins with a character.
pub separators-begins : (text run rest : List ℕ) → IsUtf8 text → text ≡ run ++ rest → IsTrue (list_all is_ascii_not_token run)
    → BeginsCharacter rest
separators-begins text run [] utf8 is all = tt
separators-begins text run (b ∷ rest) utf8 is all =
    let border = separators-boundary text run (b ∷ rest) utf8 is all in
    not_following b rest (subst (λ t. IsCharBoundary t 0) (ap (drop (length run)) is ∙ drop_at run (b ∷ rest) (length run) refl)
    (border_in_rest text (length run) 0 (subst (IsCharBoundary text) (omega arith) border)))
