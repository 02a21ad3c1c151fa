-- Lines are cut in one way, and each line is; and how far a line's first piece goes.
use Rattle.std.proofs.Common.{rules}
use Rattle.mime_http.proofs.Common.{drop_of_length-le, AreBetweenCommas, At, BeginsPiece, IsInString, IsPiece, List, OneCutOfLines, Outside}
use Rattle.mime_http.proofs.Common.{[], after, ap, append-nil, append_assoc, arith, nat_tests, comma, cond_both, cut, cut_from, ends_piece}
use Rattle.mime_http.proofs.Common.{eqb-true, false, flat_map, line_end, no_line, opens_string, piece_byte, piece_end, piece_string, refl}
use Rattle.mime_http.proofs.Common.{string_byte, string_end, string_pair, subst, sym, true, ℕ, ⊤, ◌++◌, ◌==◌, ◌∙◌, ◌∷◌, ◌≡◌, Equals, Paired}
use Rattle.mime_http.proofs.Common.{before_mark, Bool, cond, cut_after, drop, drop-drop, drop_more, get_or, get_or-drop, is_mark, length}
use Rattle.mime_http.proofs.Common.{length-drop, min, not, prefix_len, prefix_len-le-length, suc, take, zero, ◌&&◌, ◌+◌, ◌-◌, ◌<◌, ◌≤◌}
use Rattle.mime_http.proofs.Common.{IsNextOutside, piece_len, passes_at_first, true≢false, cases_Bool, ⊎_elim, take-append-drop, take_all}
use Rattle.mime_http.proofs.Common.{cases_lt}
use Rattle.mime_http.specs.LineCut.{Quoted}
use Rattle.mime_search.specs.Classes.{is_stop, end_of_run}
use Rattle.mime_search.specs.Quoted.{awaits_next, len_from}
use Rattle.mime_search.specs.declared.class.Class.{Class}

-- ---- what is a piece from a place on

-- This is a place outside strings.
abbrev pub IsOutside : At → Type 0
IsOutside Outside = ⊤
IsOutside Equals = ⊤
IsOutside place = ⊥

-- From a place on, no byte ends a piece, and they lead to a place outside strings.
abbrev pub IsWhole : At → List ℕ → Type 0
IsWhole place [] = IsOutside place
IsWhole place (b ∷ bytes) = (ends_piece place b ≡ false) × IsWhole (after place b) bytes

-- Another byte than an equals sign opens no string.
pub opens_none : (b : ℕ) (bytes : List ℕ) → (b == 61) ≡ false → opens_string (b ∷ bytes) ≡ false
opens_none b [] other = refl
opens_none b (c ∷ bytes) other = rw other refl

-- ---- a piece passes

-- After a string's content and its quote, the piece after it passes.
string_passes : {content : List ℕ} (piece : List ℕ) → IsInString content → IsWhole Outside piece
    → IsWhole Quoted (content ++ (34 ∷ piece))
string_passes piece string_end whole = (refl, whole)
string_passes piece (string_byte b content quote backslash inside) whole = (refl, rw (backslash, quote) (string_passes piece inside whole))
string_passes piece (string_pair b content inside) whole = (refl, (refl, string_passes piece inside whole))

-- A piece passes to its end.
piece_passes : {piece : List ℕ} → IsPiece piece → IsWhole Outside piece
piece_passes piece_end = tt
piece_passes (piece_byte b [] no_comma opens rest) = (no_comma, grind (arith, nat_tests))
piece_passes (piece_byte b (c ∷ piece) no_comma opens rest) = (no_comma, grind (arith, nat_tests, opens, piece_passes rest))
piece_passes (piece_string content piece inside rest) = (refl, (refl, string_passes piece inside (piece_passes rest)))

-- ---- what passes is a piece

-- A string may have a byte or a pair more at its start.
more_text : {bytes : List ℕ} (b : ℕ) → (b == 34) ≡ false → (b == 92) ≡ false → IsPiece (61 ∷ 34 ∷ bytes)
    → IsPiece (61 ∷ 34 ∷ b ∷ bytes)
more_text b quote single (piece_byte _ _ _ opens _) = absurd (true≢false opens)
more_text b quote single (piece_string content piece inside rest) =
    piece_string (b ∷ content) piece (string_byte b content quote single inside) rest

-- A string may have a pair more at its start.
more_pair : {bytes : List ℕ} (b : ℕ) → IsPiece (61 ∷ 34 ∷ bytes) → IsPiece (61 ∷ 34 ∷ 92 ∷ b ∷ bytes)
more_pair b (piece_byte _ _ _ opens _) = absurd (true≢false opens)
more_pair b (piece_string content piece inside rest) = piece_string (92 ∷ b ∷ content) piece (string_pair b content inside) rest

-- This says what bytes are from a place on, with those that lead there from outside strings.
abbrev pub Continues : At → List ℕ → Type 0
Continues Outside bytes = IsPiece bytes
Continues Equals bytes = IsPiece (61 ∷ bytes)
Continues Quoted bytes = IsPiece (61 ∷ 34 ∷ bytes)
Continues Paired bytes = IsPiece (61 ∷ 34 ∷ 92 ∷ bytes)

-- A byte outside strings that is no comma may stand before what goes on from it.
byte_before : (b : ℕ) (bytes : List ℕ) → (b == 44) ≡ false → Continues (after Outside b) bytes → IsPiece (b ∷ bytes)
byte_before b bytes on = search (IsPiece, eqb-true, piece_byte, opens_none, rules)

-- At each place, a byte that ends no piece may stand before what goes on from it.
further : (place : At) (b : ℕ) (bytes : List ℕ) → ends_piece place b ≡ false → Continues (after place b) bytes
    → Continues place (b ∷ bytes)
further Outside b bytes on = byte_before b bytes on
further Equals b bytes on = cond_both (b == 34) _ _ (λ place. Continues place bytes → IsPiece (61 ∷ b ∷ bytes))
    (λ quote. subst (λ c. IsPiece (61 ∷ c ∷ bytes)) (sym (eqb-true b 34 quote)))
    (λ other is. piece_byte 61 (b ∷ bytes) refl other (byte_before b bytes on is))
further Quoted b bytes on = cond_both (b == 92) _ _ (λ place. Continues place bytes → IsPiece (61 ∷ 34 ∷ b ∷ bytes))
    (λ backslash. subst (λ c. IsPiece (61 ∷ 34 ∷ c ∷ bytes)) (sym (eqb-true b 92 backslash)))
    (λ single. cond_both (b == 34) _ _ (λ place. Continues place bytes → IsPiece (61 ∷ 34 ∷ b ∷ bytes))
    (λ quote is. subst (λ c. IsPiece (61 ∷ 34 ∷ c ∷ bytes)) (sym (eqb-true b 34 quote)) (piece_string [] bytes string_end is))
    (λ other. more_text b other single))
further Paired b bytes on = more_pair b

-- What passes is a piece.
pub is_piece : (place : At) (bytes : List ℕ) → IsWhole place bytes → Continues place bytes
is_piece Outside [] whole = piece_end
is_piece Equals [] whole = piece_byte 61 [] refl refl piece_end
is_piece place [] whole = absurd whole
is_piece place (b ∷ bytes) whole = further place b bytes whole.0 (is_piece (after place b) bytes whole.1)

-- ---- the only cut

-- What passes with something after it is the first piece of a cut, if something else would end one there.
first_piece : (bytes more rest : List ℕ) (place : At) (piece : List ℕ) {pieces : List (List ℕ)} → IsWhole place (bytes ++ more)
    → ((place : At) (piece : List ℕ) → IsWhole place more → cut_from place piece rest ≡ piece ∷ pieces)
    → cut_from place piece (bytes ++ rest) ≡ (piece ++ bytes) ∷ pieces
first_piece [] more rest place piece {pieces} whole ends = rw (append-nil piece) (ends place piece whole)
first_piece (b ∷ bytes) more rest place piece {pieces} whole ends =
    rw (whole.0, sym (append_assoc piece (b ∷ []) bytes)) (first_piece bytes more rest (after place b) (piece ++ (b ∷ [])) whole.1 ends)

-- A text that begins a piece is cut into itself.
pub cut_of_piece : {text : List ℕ} → BeginsPiece text → cut text ≡ text ∷ []
cut_of_piece {text} begins =
    rw (append-nil text) at (first_piece text begins.0 [] Outside [] {pieces = []} (piece_passes begins.1) (λ place piece whole. refl))

-- The pieces between commas are those of the cut.
pub only_cut : {lines pieces : List (List ℕ)} → AreBetweenCommas IsPiece BeginsPiece lines pieces → pieces ≡ flat_map cut lines
only_cut no_line = refl
only_cut (line_end text lines texts begins rest) = grind (arith, only_cut rest, cut_of_piece begins)
only_cut (comma text line lines texts is rest) = grind (
  arith,
  only_cut rest,
  first_piece text [] (44 ∷ line) Outside [] {pieces = cut line}
      (rw (append-nil text) (piece_passes is)) (λ place piece whole. grind (arith, nat_tests, whole)),
)

-- The end of the piece that a position of a line is in, at this place.
abbrev pub end_on : At → List ℕ → ℕ → ℕ
end_on place line at = at + piece_len place (drop at line)

-- ---- outside strings

-- After an equals sign a byte other than a quote is as any byte outside strings.
no_quote_next : (bytes : List ℕ) → (get_or bytes 0 0 == 34) ≡ false → piece_len Equals bytes ≡ piece_len Outside bytes
no_quote_next [] other = refl
no_quote_next (c ∷ bytes) other = rw other refl

-- A byte outside strings that is no comma and opens no string goes on with the piece.
pub outside_byte : (line : List ℕ) (at : ℕ) → at < length line → (get_or line at 0 == 44) ≡ false
    → (get_or line at 0 == 61 && get_or line (at + 1) 0 == 34) ≡ false → end_on Outside line (at + 1) ≡ end_on Outside line at
outside_byte line at within on opens = search (nat_tests, drop_more, get_or-drop, no_quote_next, rules)

-- A comma outside strings ends the piece, and so does the line's end.
pub ends_outside : (line : List ℕ) (at : ℕ) → (at < length line → get_or line at 0 ≡ 44) → end_on Outside line at ≡ at
ends_outside line at is_comma = grind (arith, nat_tests, drop_more line at 0, drop_of_length-le line {i = at}, is_comma)

-- Bytes before the first comma or quote, but for the last of them, go on with a piece.
pub run_to : (bytes : List ℕ) (n : ℕ) → n ≤ before_mark 44 34 bytes - 1
    → n + piece_len Outside (drop n bytes) ≡ piece_len Outside bytes
run_to bytes zero less = omega arith
run_to [] (suc n) less = absurd (omega (arith, less))
run_to (b ∷ []) (suc n) less = grind (arith, nat_tests, less)
run_to (b ∷ c ∷ bytes) (suc n) less = grind (arith, nat_tests, less, run_to (c ∷ bytes) n)

-- All bytes before the first comma or quote are a piece, if no quote is next.
pub piece_to : (bytes : List ℕ) → (get_or bytes (before_mark 44 34 bytes) 0 == 34) ≡ false
    → before_mark 44 34 bytes ≡ piece_len Outside bytes
piece_to [] other = refl
piece_to (b ∷ []) other = grind (arith, nat_tests, other)
piece_to (b ∷ c ∷ bytes) other = grind (arith, nat_tests, other, piece_to (c ∷ bytes))

-- Bytes before the first comma or equals sign go on with a piece.
run_outside : (bytes : List ℕ)
    → before_mark 44 61 bytes + piece_len Outside (drop (before_mark 44 61 bytes) bytes) ≡ piece_len Outside bytes
run_outside [] = omega arith
run_outside (b ∷ bytes) =
    let longer : 1 + before_mark 44 61 bytes ≡ suc (before_mark 44 61 bytes) = omega arith in
    grind (arith, nat_tests, longer, run_outside bytes)

-- ---- strings

-- After an equals sign and a quote, a piece goes on in a string.
pub string_opens : (line : List ℕ) (at : ℕ) → at + 1 < length line → get_or line at 0 ≡ 61 → get_or line (at + 1) 0 ≡ 34
    → end_on Quoted line (at + 1 + 1) ≡ end_on Outside line at
string_opens line at within equals quote = search (drop_more, rules)

-- After the quote that closes a string, or at the end, a piece goes on outside strings.
string_left : (paired : Bool) (bytes : List ℕ)
    → end_on Outside bytes (min (len_from paired bytes + 1) (length bytes)) ≡ piece_len (cond paired Paired Quoted) bytes
string_left paired [] = refl
string_left paired (b ∷ bytes) =
    let n = len_from (awaits_next paired b) bytes in
    let next : min (suc n + 1) (suc (length bytes)) ≡ suc (min (n + 1) (length bytes)) = omega arith in
    grind (arith, nat_tests, next, string_left (awaits_next paired b) bytes)

-- At the position after a string's content and its quote, a piece goes on outside strings.
pub string_closed : (line : List ℕ) (from to : ℕ) → from ≤ length line
    → to ≡ min (from + len_from false (drop from line) + 1) (length line)
    → to + piece_len Outside (drop to line) ≡ from + piece_len Quoted (drop from line)
string_closed line from to within is =
    let n = min (len_from false (drop from line) + 1) (length (drop from line)) in
    let to_is : to ≡ from + n = omega (arith, is, length-drop from line) in
    rw (to_is, sym (drop-drop n from line)) (omega (arith, string_left false (drop from line)))

-- ---- the next mark

-- A search that stops at two marks finds the first of them.
pub mark_found : (class : Class) (one other : ℕ) → ((b : ℕ) → is_stop class b ≡ is_mark one other b)
    → (line : List ℕ) (from to : ℕ) → to ≡ end_of_run class line from → to ≡ from + before_mark one other (drop from line)
mark_found class one other are line from to is = is ∙ (λ i. from + prefix_len (λ b. not (are b i)) (drop from line))

-- Up to the next comma or equals sign, a piece goes on outside strings.
pub outside_next : (line : List ℕ) (from to : ℕ) → from ≤ length line → to ≡ from + before_mark 44 61 (drop from line)
    → IsNextOutside line from to
outside_next line from to within is =
    let rest = drop from line in
    let n = before_mark 44 61 rest in
    let long = length-drop from line in
    record {
      least = omega (arith, is);
      within = omega (arith, is, within, long, prefix_len-le-length (λ b. not (is_mark 44 61 b)) rest);
      left = rw (is, sym (drop-drop n from line)) (omega (arith, run_outside rest));
      mark = λ more. rw (is, sym (get_or-drop from line n 0)) (passes_at_first (is_mark 44 61) rest 0 (omega (arith, is, more, long)));
    }

-- ---- the cut

-- The cut of a rest has the rest of the piece first.
cut_goes_on : (place : At) (piece bytes : List ℕ) → cut_from place piece bytes
    ≡ (piece ++ take (piece_len place bytes) bytes) ∷ cut_after (drop (piece_len place bytes) bytes)
cut_goes_on place piece [] = ap (λ p. p ∷ []) (sym (append-nil piece))
cut_goes_on place piece (b ∷ bytes) = search (cut_goes_on (after place b) (piece ++ (b ∷ [])) bytes, append-nil, append_assoc, rules)

-- The cut of a line from a position on has the bytes up to the piece's end first.
pub cut_at_end : (line : List ℕ) (from end : ℕ) → end ≡ end_on Outside line from
    → cut (drop from line) ≡ take (end - from) (drop from line) ∷ cut_after (drop end line)
cut_at_end line from end is = search (cut_goes_on, drop-drop, rules)

-- ---- the first piece

-- A comma outside strings ends a piece.
piece_before : (place : At) (bytes : List ℕ) → piece_len place bytes < length bytes
    → (get_or bytes (piece_len place bytes) 0 ≡ 44) × IsWhole place (take (piece_len place bytes) bytes)
piece_before place [] less = absurd (omega (arith, less))
piece_before place (b ∷ bytes) less = grind (arith, nat_tests, less, piece_before (after place b) bytes)

-- From each place on, some bytes end a piece.
ended : (place : At) → (more : List ℕ) × IsWhole place more
ended Outside = ([], tt)
ended Equals = ([], tt)
ended Quoted = (34 ∷ [], (refl, tt))
ended Paired = (0 ∷ 34 ∷ [], (refl, (refl, tt)))

-- Bytes without a comma outside strings begin a piece.
more_to_whole : (place : At) (bytes : List ℕ) → length bytes ≤ piece_len place bytes
    → (more : List ℕ) × IsWhole place (bytes ++ more)
more_to_whole place [] past = ended place
more_to_whole place (b ∷ bytes) past = ⊎_elim (λ (end : ends_piece place b ≡ true). absurd (grind (arith, past, end)))
    (λ (on : ends_piece place b ≡ false).
    let rest = more_to_whole (after place b) bytes (grind (arith, past, on)) in (rest.0, (on, rest.1))) (cases_Bool (ends_piece place b))

module _ (line : List ℕ) {end : ℕ} (is : end ≡ piece_len Outside line) where
  -- A line's first entry is a piece, which a comma ends.
  pub first_entry : end < length line → (line ≡ take end line ++ (44 ∷ drop (end + 1) line)) × IsPiece (take end line)
  first_entry within =
      let whole = piece_before Outside line (omega (arith, is, within)) in (
        grind (arith, is, whole.0, take-append-drop end line, drop_more line end 0 within),
        subst (λ n. IsPiece (take n line)) (sym is) (is_piece Outside _ whole.1),
      )

  -- A line without a comma outside strings begins a piece.
  pub last_entry : length line ≤ end → BeginsPiece line
  last_entry past = let more = more_to_whole Outside line (omega (arith, is, past)) in (more.0, is_piece Outside _ more.1)

-- ---- each line has a cut

-- The pieces of a line, before those of the next lines, are between commas.
is_cut : (most : ℕ) (line : List ℕ) → length line < most → {lines pieces : List (List ℕ)}
    → AreBetweenCommas IsPiece BeginsPiece lines pieces → AreBetweenCommas IsPiece BeginsPiece (line ∷ lines) (cut line ++ pieces)
is_cut zero line short rest = absurd (omega (arith, short))
is_cut (suc most) line short {lines} {pieces} rest =
    let n = piece_len Outside line in
    rw (cut_goes_on Outside [] line) (⊎_elim (λ less.
    let first = first_entry line refl less in
    let others = is_cut most (drop (n + 1) line) (omega (arith, short, less, length-drop (n + 1) line)) rest in
    subst (λ text. AreBetweenCommas IsPiece BeginsPiece (text ∷ lines) (take n line ∷ (cut_after (drop n line) ++ pieces)))
    (sym first.0) (rw (drop_more line n 0 less) (comma (take n line) (drop (n + 1) line) lines _ first.1 others)))
    (λ past. rw (take_all n line past, drop_of_length-le line past) (line_end line lines pieces (last_entry line refl past) rest))
    (cases_lt n (length line)))

-- The pieces of the cut are those between commas.
pub are_cut : (lines : List (List ℕ)) → AreBetweenCommas IsPiece BeginsPiece lines (flat_map cut lines)
are_cut [] = no_line
are_cut (line ∷ lines) = is_cut (suc (length line)) line (omega arith) (are_cut lines)

-- Lines are cut in one way.
pub one_cut : OneCutOfLines
one_cut lines = (flat_map cut lines, are_cut lines, λ other is. only_cut is)
