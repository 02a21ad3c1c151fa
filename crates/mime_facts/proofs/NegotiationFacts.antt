-- Worked facts of the pages `HttpList` and `Weight`: what is true of a text, and what is false.
use Rattle.mime_http.proofs.Common.{IsUtf8-nil, append-nil, text_of_parts, AreHttpLists, AreSorted, Header, IsFirstBad, IsHeader}
use Rattle.mime_http.proofs.Common.{IsHttpMediaType, IsPiece, IsQvalue, List, MediaType, Parts, [], a_range, after_range, answer_of, ap}
use Rattle.mime_http.proofs.Common.{arith, as_it_stands, bad_here, codes, cut, get_or, is_token_byte, length, map, media_of_parts, no_text}
use Rattle.mime_http.proofs.Common.{read, refl, sym, thousandths_of, trimmed, true≢false, two_digits, ℕ, ◌∷◌, ◌≡◌}
use Rattle.mime_http.{specs.HttpList.blank, proofs.Around.AreAscii, proofs.Around.put_ascii, proofs.Numbers.weight_is_number}
use Rattle.mime_http.{proofs.Cuts.cut_of_piece, proofs.Cuts.are_cut, proofs.Lists.one_first_bad, proofs.Lists.one_header}
use Rattle.mime_http.{proofs.Lists.http_lists_are_read, proofs.Lists.read_are_http_lists, proofs.Lists.bad_is_alone}
use Rattle.mime_http.{proofs.HttpLaws.written_reads, proofs.ReadBack.answered_is_http, proofs.ReadFaults.rejected_is_none}

-- ---- weights (RFC 9110, 12.4.2)

-- These are texts and how many thousandths they are.
weights : (map thousandths_of (codes "0.5" ∷ codes "1.000" ∷ codes "0.001" ∷ codes "0" ∷ []) ≡ 500 ∷ 1000 ∷ 1 ∷ 0 ∷ [])
    -- Of strings that are no weights, three digits after the dot count, and digits before another byte. None need be before the dot,
    -- `2` is worth no more than 1, and a word is worth nothing.
    × (map thousandths_of (codes "0.1239" ∷ codes "0x.5" ∷ codes ".2" ∷ codes "2" ∷ codes "high" ∷ []) ≡ 123 ∷ 0 ∷ 200
    ∷ 1000 ∷ 0 ∷ [])
weights = (refl, refl)

-- This holds by the law, too.
quarter : thousandths_of (codes "0.25") ≡ 250
quarter = weight_is_number (codes "0.25") 250 (two_digits 2 5 (omega arith) (omega arith))

-- `1.5` is no weight that RFC 9110 allows, nor a half.
no_weight : ¬ (IsQvalue (codes "1.5") 500)
no_weight is = let same : 1000 ≡ 500 = weight_is_number (codes "1.5") 500 is in absurd (omega (arith, same))

-- ---- pieces

-- A comma in a string ends no piece, nor does one after a quote with a backslash before it, or in a string that isn't closed. A quote opens
-- a string only right after an equals sign.
pieces : (cut (codes "a/b;p=\"x,y\",c/d") ≡ codes "a/b;p=\"x,y\"" ∷ codes "c/d" ∷ [])
    × (cut (codes "a/b;p=\"\\\",\",c/d") ≡ codes "a/b;p=\"\\\",\"" ∷ codes "c/d" ∷ [])
    -- or in a string that isn't closed; and a quote opens a string only right after an equals sign
    × (cut (codes "a/b;p=\"x,c/d") ≡ codes "a/b;p=\"x,c/d" ∷ []) × (cut (codes "a\"b,c\"d") ≡ codes "a\"b" ∷ codes "c\"d" ∷ [])
pieces = (refl, refl, refl, refl)

-- A piece has no comma outside strings.
comma_outside : ¬ (IsPiece (codes "a/b,c/d"))
comma_outside is = absurd (omega (arith, ap length (cut_of_piece {text = codes "a/b,c/d"} ([], is))))

-- White space is left out on both sides.
trims : trimmed (codes " \t x y ") ≡ codes "x y"
trims = refl

-- ---- lists, of which this one has two elements among empty ones

abbrev a_b : Parts
a_b = record { top = codes "a"; sub = codes "b"; pairs = [] }

abbrev c_d : Parts
c_d = record { top = codes "c"; sub = codes "d"; pairs = [] }

-- What is written as it is printed, but for the white space around it, is a range before others.
as_range : (text : List ℕ) (parts : Parts) {texts bad : List (List ℕ)} {ranges : List MediaType} → AreAscii text
    → answer_of text ≡ read parts → text_of_parts parts ≡ trimmed text → AreSorted texts ranges bad
    → AreSorted (text ∷ texts) (media_of_parts parts ∷ ranges) bad
as_range text parts ascii answered same =
    a_range text (media_of_parts parts) _ _ _ (rw (append-nil text) at (put_ascii text [] ascii IsUtf8-nil))
    (answered_is_http text parts answered) (as_it_stands text (media_of_parts parts) (rw same at (written_reads text parts answered)))

-- Empty elements are no elements.
two_elements : AreHttpLists (codes ",a/b , ,c/d" ∷ []) (media_of_parts a_b ∷ media_of_parts c_d ∷ [])
unfolding is_token_byte
two_elements = read_are_http_lists (codes ",a/b , ,c/d" ∷ [])
    (record { ranges = media_of_parts a_b ∷ media_of_parts c_d ∷ []; bad = [] }) (record {
      pieces = _;
      cut = are_cut _;
      sorted = blank [] _ _ _ refl (as_range (codes "a/b ") a_b (omega arith) refl refl
          (blank (codes " ") _ _ _ refl (as_range (codes "c/d") c_d (omega arith) refl refl no_text)));
    }) refl

-- A text with a space within is no media type.
not_media_type : ¬ (IsHttpMediaType (codes " a b"))
unfolding is_token_byte
not_media_type = rejected_is_none (codes " a b") _ refl

-- An entry of two pieces is bad as a whole, also between two others.
bad_between : IsHeader (codes "c/d, a b" ∷ codes "a/b " ∷ [])
    (record { ranges = media_of_parts c_d ∷ media_of_parts a_b ∷ []; bad = codes "a b" ∷ [] })
unfolding is_token_byte
bad_between = (bad_is_alone (codes "c/d, a b" ∷ codes "a/b " ∷ []) (codes "c/d" ∷ codes "a/b " ∷ []) (codes "c/d" ∷ [])
    (codes "a/b " ∷ []) (codes " a b") _ _ [] [] (as_range (codes "c/d") c_d (omega arith) refl refl no_text)
    (as_range (codes "a/b ") a_b (omega arith) refl refl no_text)
    (λ blank. true≢false (sym blank)) (λ is. not_media_type is.1) (are_cut _) (are_cut _)).0

-- A line with a bad entry is no list.
not_a_list : (media : List MediaType) → ¬ (AreHttpLists (codes "c/d, a b" ∷ codes "a/b " ∷ []) media)
not_a_list media is =
    let read = http_lists_are_read (codes "c/d, a b" ∷ codes "a/b " ∷ []) media is in
    absurd (omega (arith, ap (λ (header : Header). length header.bad) (one_header _ _ _ bad_between read.2)))

-- A range prints no other text than its own.
other_text : ¬ (IsHeader (codes "c/d, a b" ∷ codes "a/b " ∷ [])
    (record { ranges = record (media_of_parts c_d) { kept = codes "C/d" } ∷ media_of_parts a_b ∷ []; bad = codes "a b" ∷ [] }))
other_text is =
    let kept = λ (header : Header). get_or (get_or (map (λ (range : MediaType). range.kept) header.ranges) 0 []) 0 0 in
    absurd (omega (arith, ap kept (one_header _ _ _ bad_between is)))

-- The first bad entry is the second of three entries.
first_bad : IsFirstBad (codes "c/d, a b" ∷ codes "a/b " ∷ []) 1
unfolding is_token_byte
first_bad = record {
  pieces = _;
  cut = are_cut _;
  first = after_range (codes "c/d") _ 0 (rw (append-nil (codes "c/d")) at (put_ascii (codes "c/d") [] (omega arith) IsUtf8-nil))
      (media_of_parts c_d, answered_is_http (codes "c/d") c_d refl)
      (bad_here (codes " a b") _ (λ blank. true≢false (sym blank)) (λ is. not_media_type is.1));
}

-- It isn't the first.
not_first_bad : ¬ (IsFirstBad (codes "c/d, a b" ∷ codes "a/b " ∷ []) 0)
not_first_bad is = let only = ((one_first_bad _ _ bad_between).1 1 first_bad).1 0 is in absurd (omega (arith, only))

-- ---- no line

-- This is `*/*`.
any : Parts
any = record { top = codes "*"; sub = codes "*"; pairs = [] }

-- A request without the header accepts everything.
no_line_accepts : IsHeader [] (record { ranges = media_of_parts any ∷ []; bad = [] })
unfolding any is_token_byte
no_line_accepts = record { pieces = _; cut = are_cut _; sorted = as_range (codes "*/*") any (omega arith) refl refl no_text }

-- It doesn't accept nothing.
accepts_something : ¬ (IsHeader [] (record { ranges = []; bad = [] }))
accepts_something is = absurd (omega (arith, ap (λ (header : Header). length header.ranges) (one_header [] _ _ no_line_accepts is)))
