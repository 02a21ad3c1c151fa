-- What is taken of lines, piece by piece.
use Rattle.std.proofs.Common.{rules}
use Rattle.mime_http.proofs.Common.{AreHeld, At, FirstBad, Held, IsFirstBad, MatchOption, None, Option, Some, after_blank, after_range}
use Rattle.mime_http.proofs.Common.{bad_here, cut_from, after, false, length-append, nothing_held, ap, option_or, pieces_of, with_bad}
use Rattle.mime_http.proofs.Common.{with_range, ◌∙◌, ◌^◌, AreSorted, AreSpaces, Bool, Header, HttpReads, IsHeader, IsHttpMediaType}
use Rattle.mime_http.proofs.Common.{IsPrinted, IsUtf8, List, MediaType, OnOk, Outside, Result, Takes, [], a_bad, a_range, append-nil}
use Rattle.mime_http.proofs.Common.{append_assoc, cut, cut_after, arith, drop, drop_more, drop_of_length-le, get_or, if◌then◌else◌, length}
use Rattle.mime_http.proofs.Common.{lines_or_any, no_text, on_ok_weaker, refl, sym, take, trimmed, ℕ, ◌++◌, ◌+◌, ◌-◌, ◌<◌, ◌∷◌, ◌≡◌, ◌≤◌}
use Rattle.mime_http.specs.HttpList.{blank}
use Rattle.mime_http.proofs.Cuts.{are_cut, only_cut, cut_at_end, end_on}
use Rattle.mime_http.proofs.Around.{trimmed_from_blank}

-- Two runs of texts are sorted one after the other.
pub sorted_both : {texts more : List (List ℕ)} {ranges others : List MediaType} {bad poor : List (List ℕ)}
    → AreSorted texts ranges bad → AreSorted more others poor → AreSorted (texts ++ more) (ranges ++ others) (bad ++ poor)
sorted_both no_text second = second
sorted_both (blank text texts ranges bad white rest) second = blank text _ _ _ white (sorted_both rest second)
sorted_both (a_range text range _ _ _ utf8 reads kept rest) second = a_range text range _ _ _ utf8 reads kept (sorted_both rest second)
sorted_both (a_bad text texts ranges bad some isnt rest) second = a_bad text _ _ _ some isnt (sorted_both rest second)

-- ---- a piece

-- The first bad text stays the first with more texts after it.
first_stays : {texts : List (List ℕ)} {at : ℕ} (more : List (List ℕ)) → FirstBad texts at → FirstBad (texts ++ more) at
first_stays more (bad_here text texts some isnt) = bad_here text _ some isnt
first_stays more (after_blank text texts at white rest) = after_blank text _ at white (first_stays more rest)
first_stays more (after_range text texts at utf8 is rest) = after_range text _ at utf8 is (first_stays more rest)

-- A bad text after texts of which none is bad is the first, at the number of ranges.
first_after : {texts : List (List ℕ)} {ranges : List MediaType} {text : List ℕ} → ¬ (AreSpaces text)
    → ¬ (IsUtf8 text × IsHttpMediaType text) → AreSorted texts ranges [] → FirstBad (texts ++ (text ∷ [])) (length ranges)
first_after some isnt no_text = bad_here _ [] some isnt
first_after some isnt (blank text texts ranges _ white rest) = after_blank text _ _ white (first_after some isnt rest)
first_after some isnt (a_range text range texts ranges _ utf8 reads printed rest) = search (first_after some isnt rest, after_range, rules)

-- The first bad text of held pieces stays the first, or there is still none, with a piece that isn't bad after them.
first_still : (first : Option ℕ) (pieces bad : List (List ℕ)) (piece : List ℕ) → MatchOption first (bad ≡ []) (FirstBad pieces)
    → MatchOption first (bad ++ [] ≡ []) (FirstBad (pieces ++ (piece ∷ [])))
first_still None pieces bad piece none = append-nil bad ∙ none
first_still (Some at) pieces bad piece is = first_stays (piece ∷ []) is

-- ---- a piece

module _ (keeps_bad : Bool) (piece : List ℕ) (old : Held) where
  -- A piece of white space adds nothing.
  pub takes_blank : AreSpaces piece → Takes keeps_bad (piece ∷ []) old old
  takes_blank white = search (append-nil, sorted_both, blank, no_text, first_still, rules)

  -- A media type that was added is a range.
  pub takes_range : {range : MediaType} (new : Held) {X E : Type 0} (result : Result X E) → IsUtf8 piece → HttpReads piece range
      → IsPrinted piece range → OnOk result (new ≡ with_range range old) → OnOk result (Takes keeps_bad (piece ∷ []) old new)
  takes_range {range} new result utf8 reads printed = search (on_ok_weaker, sorted_both, a_range, no_text, append-nil, first_still, rules)

  -- The first of a bad piece and of those before it is theirs, or else this piece.
  first_of_bad : (first : Option ℕ) {pieces bad : List (List ℕ)} {ranges : List MediaType} (entry : List ℕ) → ¬ (AreSpaces piece)
      → ¬ (IsUtf8 piece × IsHttpMediaType piece) → AreSorted pieces ranges bad → MatchOption first (bad ≡ []) (FirstBad pieces)
      → MatchOption (option_or first (Some (length ranges))) (bad ++ (entry ∷ []) ≡ []) (FirstBad (pieces ++ (piece ∷ [])))
  first_of_bad None entry some isnt sorted none = first_after some isnt (rw none at sorted)
  first_of_bad (Some at) entry some isnt sorted is = first_stays (piece ∷ []) is

  -- Any other piece is bad.
  pub takes_bad : {entry : List ℕ} (new : Held) {X E : Type 0} (result : Result X E) → entry ≡ trimmed piece
      → ¬ (trimmed piece ≡ []) → ¬ (IsUtf8 piece × IsHttpMediaType piece) → OnOk result (new ≡ with_bad keeps_bad entry old)
      → OnOk result (Takes keeps_bad (piece ∷ []) old new)
  takes_bad {entry} new result trim some isnt = on_ok_weaker result (λ is before held.
      let not_blank : ¬ (AreSpaces piece) = λ white. some (trimmed_from_blank piece white) in
      rw is (record {
        bad = held.bad ++ (entry ∷ []);
        sorted = rw (append-nil old.kept.ranges, sym trim) at (sorted_both held.sorted (a_bad piece [] [] [] not_blank isnt no_text));
        kept = grind (arith, held.kept);
        count = grind (arith, held.count, length-append held.bad (entry ∷ []));
        first = first_of_bad old.first entry not_blank isnt held.sorted held.first;
      }))

-- ---- texts of which nothing is read

-- Nothing is read of the pieces of lines that have no entry.
pub pieces_of_nothing : {lines : List (List ℕ)} → IsHeader lines nothing_held.kept → AreSorted (pieces_of (lines_or_any lines)) [] []
pieces_of_nothing holds = rw (only_cut holds.cut) at holds.sorted

-- Of texts of which nothing is read, nothing is read of the first and of the rest.
pub both_are_nothing : (first : List (List ℕ)) {rest : List (List ℕ)} → AreSorted (first ++ rest) [] []
    → AreSorted first [] [] × AreSorted rest [] []
both_are_nothing [] sorted = (no_text, sorted)
both_are_nothing (text ∷ first) (blank _ _ _ _ white others) = search (both_are_nothing first others, blank, rules)

-- A text of which nothing is read is white space.
pub is_blank : {piece : List ℕ} {rest : List (List ℕ)} → AreSorted (piece ∷ rest) [] [] → trimmed piece ≡ []
is_blank (blank piece _ _ _ white others) = trimmed_from_blank piece white

-- ---- piece by piece

-- These pieces are left of all: if they are taken, all are, and if nothing is read of all, nothing is read of them.
pub record AreLeft (keeps_bad : Bool) (old now : Held) (all rest : List (List ℕ)) : Type 0 where
  pub takes : (new : Held) → Takes keeps_bad rest now new → Takes keeps_bad all old new
  pub nothing : AreSorted all [] [] → AreSorted rest [] []

-- No more texts are sorted as bad than there are texts.
bad_within : {texts : List (List ℕ)} {ranges : List MediaType} {bad : List (List ℕ)} → AreSorted texts ranges bad
    → length bad ≤ length texts
bad_within no_text = omega arith
bad_within (blank _ _ _ _ _ rest) = omega (arith, bad_within rest)
bad_within (a_range _ _ _ _ _ _ _ _ rest) = omega (arith, bad_within rest)
bad_within (a_bad _ _ _ _ _ _ rest) = omega (arith, bad_within rest)

-- A line has at most one piece more than bytes.
pieces_within : (place : At) (piece bytes : List ℕ) → length (cut_from place piece bytes) ≤ length bytes + 1
pieces_within place piece [] = omega arith
pieces_within place piece (b ∷ bytes) =
    grind (arith, pieces_within Outside [] bytes, pieces_within (after place b) (piece ++ (b ∷ [])) bytes)

module _ {keeps_bad : Bool} where
  -- After some are taken, those behind them are left.
  pub rest_left : (some : List (List ℕ)) {old now new : Held} {all rest : List (List ℕ)}
      → AreLeft keeps_bad old now all (some ++ rest) → Takes keeps_bad some now new → AreLeft keeps_bad old new all rest
  rest_left some {rest = rest} left taken = search (append_assoc, both_are_nothing, rules)

  -- All are taken if none is left.
  pub all_taken : {old now : Held} {all : List (List ℕ)} → AreLeft keeps_bad old now all [] → Takes keeps_bad all old now
  all_taken {now = now} left = left.takes now (λ before held. rw (append-nil before) held)

  -- All are held that are taken after nothing.
  held_of : {pieces : List (List ℕ)} {now : Held} → Takes keeps_bad pieces nothing_held now → AreHeld keeps_bad pieces now
  held_of taken = taken [] (record { bad = []; sorted = no_text; kept = grind arith; count = omega arith; first = refl })

  -- What is kept of all pieces of the lines is of their header.
  pub header_taken : (lines : List (List ℕ)) {now : Held} → Takes keeps_bad (pieces_of (lines_or_any lines)) nothing_held now
      → (header : Header) × IsHeader lines header × (now.kept ≡ record header { bad = if keeps_bad then header.bad else [] })
  header_taken lines {now} taken =
      let held = held_of taken in (
        record { ranges = now.kept.ranges; bad = held.bad },
        record { pieces = pieces_of (lines_or_any lines); cut = are_cut (lines_or_any lines); sorted = held.sorted },
        λ i. record { ranges = now.kept.ranges; bad = held.kept i },
      )

  module _ (line : List ℕ) (from : ℕ) {old now : Held} (left : AreLeft keeps_bad old now (cut line) (cut (drop from line))) where
    -- After an empty piece of a line those behind it are left.
    pub past_empty : from < length line → get_or line from 0 ≡ 44 → AreLeft keeps_bad old now (cut line) (cut (drop (from + 1) line))
    past_empty within comma = rest_left ([] ∷ []) (rw (drop_more line from 0 within, comma) at left) (takes_blank keeps_bad [] now refl)

    module _ (end : ℕ) (is : end ≡ end_on Outside line from) {new : Held}
        (taken : Takes keeps_bad (take (end - from) (drop from line) ∷ []) now new) where
      -- After a piece that ends at a position those behind it are left.
      passed : AreLeft keeps_bad old new (cut line) (cut_after (drop end line))
      passed = rest_left (take (end - from) (drop from line) ∷ []) (rw (cut_at_end line from end is) at left) taken

      -- Those after the comma that ends the piece are left.
      pub past_piece : end < length line → AreLeft keeps_bad old new (cut line) (cut (drop (end + 1) line))
      past_piece more = rw (drop_more line end 0 more) at passed

      -- At the line's end all are taken.
      pub past_last : length line ≤ end → Takes keeps_bad (cut line) old new
      past_last past = all_taken (rw (drop_of_length-le line past) at passed)

    -- The first piece is white space if nothing is read of the line.
    pub blank_there : (end : ℕ) → end ≡ end_on Outside line from → AreSorted (cut line) [] []
        → trimmed (take (end - from) (drop from line)) ≡ []
    blank_there end is sorted = is_blank (rw (cut_at_end line from end is) at (left.nothing sorted))

-- ---- a line whose bad entries are counted

-- What is known of the first bad piece is known of the line's first bad entry.
entry_first : (line : List ℕ) (count : ℕ) (bad : List (List ℕ)) (first : Option ℕ) → count ≡ length bad
    → MatchOption first (bad ≡ []) (FirstBad (cut line)) → MatchOption first (count ≡ 0) (IsFirstBad (line ∷ []))
entry_first line count bad None counted none = counted ∙ ap length none
entry_first line count bad (Some at) counted first =
    record { pieces = cut line; cut = rw (append-nil (cut line)) at (are_cut (line ∷ [])); first = first }

-- What is held of a line's pieces is its header, with the number of bad entries and the first one's position.
pub line_counted : (line : List ℕ) {now : Held} → length line < 2 ^ 63 → Takes false (cut line) nothing_held now
    → ((header : Header) × IsHeader (line ∷ []) header × (now.kept ≡ record header { bad = [] })
    × (now.count ≡ length header.bad)) × MatchOption now.first (now.count ≡ 0) (IsFirstBad (line ∷ []))
line_counted line {now} short taken =
    let held = held_of taken in
    let fits : now.count ≡ length held.bad = omega (arith, held.count, bad_within held.sorted, pieces_within Outside [] line, short) in (
      (
        record { ranges = now.kept.ranges; bad = held.bad },
        record { pieces = cut line; cut = rw (append-nil (cut line)) at (are_cut (line ∷ [])); sorted = held.sorted },
        λ i. record { ranges = now.kept.ranges; bad = held.kept i },
        fits,
      ),
      entry_first line now.count held.bad now.first fits held.first,
    )
