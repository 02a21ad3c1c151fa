-- Bodies and headers for which the words of the multipart recipe hold, and others for which they don't. The delimiter is `--x`.
use Rattle.std.proofs.Common.{rules, ◌≡◌, ◌≢◌, ◌∙◌, ◌≤◌, ◌<◌, ◌==◌, ◌||◌, ◌++◌, ◌∷◌, [], inl, inr, ⊎_elim, ℕ, List, Bool, true, false}
use Rattle.std.proofs.Common.{Option, Some, None, drop, length, length-append, refl, sym, subst, ap, arith, codes}
use Rattle.std.proofs.{lemmas.Bool.true≢false, lemmas.Bool.false≢true, lemmas.Option.same_Some}
use Rattle.mime.proofs.HandedOut.{length-lowered}
use Rattle.mime.specs.Grammar.{is_space}
use Rattle.mime_examples.specs.Multipart.{IsLine, IsEmptyLine, EndsLine, Closes, Opens, feed, return_feed, space, EndsDelimiter}
use Rattle.mime_examples.specs.Multipart.{HasNoDelimiter, IsCut, IsPart, no_line, with_return, without_return, closed, cut_off, a_part}
use Rattle.mime_examples.specs.Multipart.{IsBody, no_delimiter, after_preamble}
use Rattle.mime_examples.specs.Multipart.{IsField, IsFirstField, in_line, after_line, empty_line, no_line_end}
use Rattle.mime_examples.specs.Multipart.{IsContent, after_empty, after_full, empty_last, full_last}

-- This is the delimiter of the examples.
abbrev mark : List ℕ
mark = codes "--x"

-- This is the first byte of a text, or 0 of none.
abbrev byte_of : List ℕ → ℕ
byte_of [] = 0
byte_of (b ∷ text) = b

-- A text with a first byte isn't empty.
some_byte : (b : ℕ) (text : List ℕ) → b ∷ text ≢ []
some_byte b text none = omega (arith, ap length none)

-- ---- lines

-- A line has no line feed, and an empty one at most a carriage return.
lines : IsLine (codes "a\r") × ¬ (IsLine (codes "a\nb")) × IsEmptyLine [] × IsEmptyLine (codes "\r") × ¬ (IsEmptyLine (codes "a"))
lines = search (false≢true, rules)

-- A line begins at the start and after a line feed, and nowhere else.
line_ends : EndsLine [] × EndsLine (codes "a\n") × ¬ (EndsLine (codes "\na"))
line_ends = ((λ some. absurd (some refl)), (λ _. refl), λ ends. omega (arith, same_Some 97 10 (ends (some_byte 10 (codes "a")))))

-- ---- the ends of delimiters

-- A delimiter ends with two hyphens, or with its line, after white space or none.
delimiter_ends : EndsDelimiter (codes "--y") × Opens (codes " \t\r\na") (codes "a") × Opens (codes "\n") []
delimiter_ends = (
  inl (codes "y", refl),
  space 32 (codes "\t\r\na") (codes "a") refl (space 9 (codes "\r\na") (codes "a") refl (return_feed (codes "a"))),
  feed [],
)

-- These are the bytes that a line goes on with whose delimiter begins a part.
abbrev may_open : ℕ → Bool
may_open b = is_space b || b == 10 || b == 13

-- Where a delimiter begins a part, its line goes on with one of them.
opens_by : (after text : List ℕ) → Opens after text → may_open (byte_of after) ≡ true
opens_by after text (feed _) = refl
opens_by after text (return_feed _) = refl
opens_by after text (space b rest _ white more) = rw white refl

-- A delimiter that closes a body begins no part.
closes_alone : (after text : List ℕ) → Closes after → ¬ (Opens after text)
closes_alone after text closes opens =
    false≢true (subst (λ it. may_open (byte_of it) ≡ true) closes.1 (opens_by after text opens))

-- A carriage return without a line feed ends no line.
no_feed : (text : List ℕ) → ¬ (Opens (codes "\r") text)
no_feed text (space b rest _ white more) = false≢true white

-- With another byte after it, with one hyphen, or without the end of its line, a delimiter is none.
no_ends : ¬ (EndsDelimiter (codes "y\n")) × ¬ (EndsDelimiter (codes "-\n")) × ¬ (EndsDelimiter []) × ¬ (EndsDelimiter (codes "\r"))
no_ends = (
  ⊎_elim (λ closes. let byte : 121 ≡ 45 = ap byte_of closes.1 in omega (arith, byte)) (λ opens. false≢true (opens_by _ _ opens.1)),
  ⊎_elim (λ closes. let byte : 10 ≡ 45 = ap (λ it. byte_of (drop 1 it)) closes.1 in omega (arith, byte))
      (λ opens. false≢true (opens_by _ _ opens.1)),
  ⊎_elim (λ closes. omega (arith, ap length closes.1)) (λ opens. false≢true (opens_by _ _ opens.1)),
  ⊎_elim (λ closes. omega (arith, ap length closes.1)) (λ opens. no_feed opens.0 opens.1),
)

-- ---- cuts

-- A delimiter within a line is none.
none_inside : HasNoDelimiter mark (codes "a--x--")
none_inside [] after line ends is = let byte : 97 ≡ 45 = ap byte_of is in omega (arith, byte)
none_inside (b ∷ []) after line ends is = search (same_Some, some_byte, rules)
none_inside (b ∷ c ∷ []) after line ends is = search (same_Some, some_byte, rules)
none_inside (b ∷ c ∷ d ∷ []) after line ends is = search (same_Some, some_byte, rules)
none_inside (b ∷ c ∷ d ∷ e ∷ before) after line ends is = omega (arith, simp length-append at (ap length is))

-- A delimiter after a line feed is one.
one_after_a_line : ¬ (HasNoDelimiter mark (codes "a\n--x\n"))
one_after_a_line none = none (codes "a\n") (codes "\n") line_ends.1 (inr ([], feed [])) refl

-- Nothing ends with the letter after a delimiter.
no_y : ¬ (EndsDelimiter (codes "y"))
no_y = ⊎_elim (λ closes. omega (arith, ap length closes.1)) (λ opens. false≢true (opens_by _ _ opens.1))

-- A line that begins with the delimiter, and goes on, is none.
none_that_goes_on : HasNoDelimiter mark (codes "--xy")
none_that_goes_on [] after line ends is = let rest : codes "y" ≡ after = ap (drop 3) is in no_y (subst EndsDelimiter (sym rest) ends)
none_that_goes_on (b ∷ []) after line ends is = let byte : 120 ≡ 45 = ap (λ it. byte_of (drop 2 it)) is in omega (arith, byte)
none_that_goes_on (b ∷ c ∷ before) after line ends is = omega (arith, simp length-append at (ap length is))

-- No delimiter begins a line before the second byte.
none_before : (earlier later : List ℕ) → EndsLine earlier → EndsDelimiter later → codes "a\n--x--" ≡ earlier ++ (mark ++ later)
    → 2 ≤ length earlier
none_before [] later line ends is = let byte : 97 ≡ 45 = ap byte_of is in absurd (omega (arith, byte))
none_before (b ∷ []) later line ends is = let byte : 10 ≡ 45 = ap (λ it. byte_of (drop 1 it)) is in absurd (omega (arith, byte))
none_before (b ∷ c ∷ earlier) later line ends is = omega arith

-- A text is cut at the first delimiter that begins a line.
cut_after_a_line : IsCut mark (codes "a\n--x--") (codes "a\n") (codes "--")
cut_after_a_line = record { whole = refl; line = line_ends.1; ends = inl ([], refl); first = none_before }

-- A text is cut neither at a later delimiter, nor at one within a line, nor at other bytes, nor where the line goes on.
no_cuts :
    ¬ (IsCut mark (codes "--x\n--x--") (codes "--x\n") (codes "--")) × ¬ (IsCut mark (codes "a--x--") (codes "a") (codes "--"))
    × ¬ (IsCut mark (codes "a\n--x--") (codes "a\n") []) × ¬ (IsCut mark (codes "--xy\n") [] (codes "y\n"))
no_cuts = (
  (λ cut. omega (arith, cut.first [] (codes "\n--x--") line_ends.0 (inr (codes "--x--", feed (codes "--x--"))) refl)),
  (λ cut. omega (arith, same_Some 97 10 (cut.line (some_byte 97 [])))),
  (λ cut. omega (arith, ap length cut.whole)),
  λ cut. no_ends.0 cut.ends,
)

-- ---- parts

-- The text `a` doesn't end with a carriage return.
no_return : (line : List ℕ) → codes "a" ≢ line ++ codes "\r"
no_return [] is = let byte : 97 ≡ 13 = ap byte_of is in omega (arith, byte)
no_return (b ∷ line) is = omega (arith, simp length-append at (ap length is))

-- A part ends before a line feed, and before the carriage return in front of it.
parts_of_lines : IsPart [] [] × IsPart (codes "a\r\n") (codes "a") × IsPart (codes "a\n") (codes "a")
parts_of_lines = (no_line, with_return (codes "a"), without_return (codes "a") no_return)

-- The carriage return before a line feed isn't the part's.
whole_line_end : (before part : List ℕ) → IsPart before part → before ≡ codes "a\r\n" → part ≢ codes "a\r"
whole_line_end before part no_line is same = omega (arith, ap length is)
whole_line_end before part (with_return _) is same = omega (arith, simp length-append at (ap length is), ap length same)
whole_line_end before part (without_return _ none) is same = none (codes "a") same

-- ---- bodies

-- A body is cut at a delimiter that it begins with.
at_start : (rest : List ℕ) → EndsDelimiter rest → IsCut mark (mark ++ rest) [] rest
at_start rest is_end = record { whole = refl; line = line_ends.0; ends = is_end; first = λ earlier later line ends is. omega arith }

-- The text `a` has no delimiter.
none_in_a : HasNoDelimiter mark (codes "a")
none_in_a before after line ends is = omega (arith, simp length-append at (ap length is))

-- A line feed ends the line of a delimiter.
line_end : (text : List ℕ) → EndsDelimiter (10 ∷ text)
line_end text = inr (text, feed text)

-- A body that a delimiter closes is whole, and has a part.
whole_body : IsBody mark (codes "--x\na\n--x--") (codes "a" ∷ []) true
whole_body =
    after_preamble _ [] (codes "\na\n--x--") (codes "a" ∷ []) true (at_start (codes "\na\n--x--") (line_end (codes "a\n--x--")))
    (a_part (codes "\na\n--x--") (codes "a") (codes "--") [] true (record {
      text = codes "a\n--x--";
      before = codes "a\n";
      opens = feed (codes "a\n--x--");
      cut = cut_after_a_line;
      is_part = parts_of_lines.2;
    }) (closed (codes "--") ([], refl)))

-- A body that is cut off in its part has none, and isn't whole.
cut_off_body : IsBody mark (codes "--x\na") [] false
cut_off_body =
    after_preamble _ [] (codes "\na") [] false (at_start (codes "\na") (line_end (codes "a")))
    (cut_off (codes "\na") (record { text = codes "a"; opens = feed (codes "a"); alone = none_in_a }))

-- A body without a delimiter has no part, and isn't whole.
body_without_delimiter : IsBody mark (codes "a") [] false
body_without_delimiter = no_delimiter (codes "a") none_in_a

-- What follows a delimiter at the start of a body is known.
after_start : (body before after rest : List ℕ) → EndsDelimiter rest → body ≡ mark ++ rest → IsCut mark body before after → after ≡ rest
after_start body [] after rest ends is cut = ap (drop 3) (sym cut.whole ∙ is)
after_start body (b ∷ before) after rest ends is cut = absurd (omega (arith, cut.first [] rest line_ends.0 ends is))

-- The body `--x--` is whole, and has no part.
closed_at_once : (parts : List (List ℕ)) (is_whole : Bool) → IsBody mark (codes "--x--") parts is_whole
    → (parts ≡ []) × (is_whole ≡ true)
closed_at_once parts is_whole (no_delimiter _ none) = absurd (none [] (codes "--") line_ends.0 (inl ([], refl)) refl)
closed_at_once parts is_whole (after_preamble _ before after _ _ cut (closed _ closes)) = (refl, refl)
closed_at_once parts is_whole (after_preamble _ before after _ _ cut (cut_off _ off)) =
    absurd (closes_alone after off.text ([], after_start _ before after (codes "--") (inl ([], refl)) refl cut) off.opens)
closed_at_once parts is_whole (after_preamble _ before after _ _ cut (a_part _ part _ more _ next are)) =
    absurd (closes_alone after next.text ([], after_start _ before after (codes "--") (inl ([], refl)) refl cut) next.opens)

-- The text after a delimiter's line is shorter than what follows the delimiter.
opens_shorter : (after text : List ℕ) → Opens after text → length text < length after
opens_shorter after text (feed _) = omega arith
opens_shorter after text (return_feed _) = omega arith
opens_shorter after text (space b rest _ white more) = omega (arith, opens_shorter rest text more)

-- The body `--x` with a line after it isn't whole, and has no part.
cut_off_at_once : (parts : List (List ℕ)) (is_whole : Bool) → IsBody mark (codes "--x\na") parts is_whole
    → (parts ≡ []) × (is_whole ≡ false)
cut_off_at_once parts is_whole (no_delimiter _ none) = absurd (none [] (codes "\na") line_ends.0 (line_end (codes "a")) refl)
cut_off_at_once parts is_whole (after_preamble _ before after _ _ cut (closed _ closes)) =
    let same = after_start _ before after (codes "\na") (line_end (codes "a")) refl cut in
    let byte : 10 ≡ 45 = ap byte_of (sym same ∙ closes.1) in absurd (omega (arith, byte))
cut_off_at_once parts is_whole (after_preamble _ before after _ _ cut (cut_off _ off)) = (refl, refl)
cut_off_at_once parts is_whole (after_preamble _ before after _ _ cut (a_part _ part rest more _ next are)) =
    let same = ap length (after_start _ before after (codes "\na") (line_end (codes "a")) refl cut) in
    let long = ap length next.cut.whole in
    absurd (omega (arith, same, opens_shorter after next.text next.opens, simp length-append at long))

-- ---- fields

-- A field's name is found in any case, and its value lies between white space.
field : IsField (codes "a") (codes "A: b ") (codes "b")
field = record {
  written = codes "A";
  rest = codes " b ";
  spelled = refl;
  named = refl;
  trimmed = (
    1,
    refl,
    (λ i less. let first : i ≡ 0 = omega (arith, less) in rw first refl),
    (λ _. refl),
    (λ i least less. let last : i ≡ 1 = omega (arith, least, less) in rw last refl),
    λ _. refl,
  );
}

-- A name that goes on is another.
longer_name : (written rest : List ℕ) → codes "ab:c" ≡ written ++ (codes ":" ++ rest) → length written ≢ 1
longer_name [] rest is one = omega (arith, one)
longer_name (b ∷ []) rest is one = let byte : 98 ≡ 58 = ap (λ it. byte_of (drop 1 it)) is in omega (arith, byte)
longer_name (b ∷ c ∷ written) rest is one = omega (arith, one)

-- A line with a longer name isn't the field.
no_field : (value : List ℕ) → ¬ (IsField (codes "a") (codes "ab:c") value)
no_field value is = longer_name is.written is.rest is.spelled (sym (length-lowered is.written) ∙ ap length is.named)

-- A line without a colon is no field.
no_colon : (written rest : List ℕ) → codes "c" ≢ written ++ (codes ":" ++ rest)
no_colon [] rest is = let byte : 99 ≡ 58 = ap byte_of is in omega (arith, byte)
no_colon (b ∷ written) rest is = omega (arith, simp length-append at (ap length is))

-- The first field of a header is found.
first_field : IsFirstField (codes "a") (codes "c\nA: b \na:d\n") (Some (codes "b"))
first_field =
    after_line (codes "c") (codes "A: b \na:d\n") (Some (codes "b")) refl (λ value is. no_colon is.written is.rest is.spelled)
    (λ is. ⊎_elim (λ none. omega (arith, ap length none)) (λ same. let byte : 99 ≡ 13 = ap byte_of same in omega (arith, byte)) is)
    (in_line (codes "A: b ") (codes "a:d\n") (codes "b") refl field)

-- The first line of a text that begins with a line feed is empty.
begins_with_feed : (line more rest : List ℕ) → IsLine line → line ++ (10 ∷ more) ≡ 10 ∷ rest → line ≡ []
begins_with_feed [] more rest is same = refl
begins_with_feed (b ∷ line) more rest is same = search (true≢false, rules)

-- No field is found after the empty line that ends a header.
none_after_header : (text : List ℕ) (found : Option (List ℕ)) → IsFirstField (codes "a") text found → text ≡ codes "\nA: b\n"
    → found ≡ None
none_after_header text found (in_line line more value is_line is) same =
    absurd (omega (arith, simp length-append at (ap length (sym (begins_with_feed line more (codes "A: b\n") is_line same) ∙ is.spelled))))
none_after_header text found (after_line line more _ is_line none full rest) same =
    absurd (full (inl (begins_with_feed line more (codes "A: b\n") is_line same)))
none_after_header text found (empty_line line more is_line is) same = refl
none_after_header text found (no_line_end _ is_line) same = refl

-- ---- contents

-- A line of a header isn't empty.
full_line : ¬ (IsEmptyLine (codes "a:b"))
full_line = ⊎_elim (λ none. omega (arith, ap length none)) (λ return. omega (arith, ap length return))

-- A content follows the first empty line, which may be the last line, and a part without an empty line has none.
contents :
    IsContent (codes "a:b\n\nc\n\n") (Some (codes "c\n\n")) × IsContent (codes "a:b\n") (Some []) × IsContent [] (Some [])
    × IsContent (codes "\r\nc") (Some (codes "c")) × IsContent (codes "c") None
contents = (
  after_full (codes "a:b") (codes "\nc\n\n") (Some (codes "c\n\n")) refl full_line (after_empty [] (codes "c\n\n") (inl refl)),
  after_full (codes "a:b") [] (Some []) refl full_line empty_last,
  empty_last,
  after_empty (codes "\r") (codes "c") (inr refl),
  full_last (codes "c") refl (some_byte 99 []),
)

-- A part that begins with an empty line has one content, without this line.
one_content : (part : List ℕ) (found : Option (List ℕ)) → IsContent part found → part ≡ codes "\nc" → found ≡ Some (codes "c")
one_content part found (after_empty line content (inl none)) same =
    ap Some (ap (drop 1) (subst (λ it. it ++ (10 ∷ content) ≡ codes "\nc") none same))
one_content part found (after_empty line content (inr return)) same =
    let byte : 13 ≡ 10 = ap byte_of (subst (λ it. it ++ (10 ∷ content) ≡ codes "\nc") return same) in absurd (omega (arith, byte))
one_content part found (after_full line more _ is_line full rest) same =
    absurd (full (inl (begins_with_feed line more (codes "c") is_line same)))
one_content part found empty_last same = absurd (omega (arith, ap length same))
one_content part found (full_last line is_line some) same = absurd (false≢true (subst IsLine same is_line))
