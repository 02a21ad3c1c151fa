-- How many bytes the strings of a header's value are, and that they come back.
use Rattle.std.proofs.Common.{◌≡◌, ℕ, ◌+◌, ◌*◌, ◌<◌, ◌≤◌, Bool, true, List, [], ◌∷◌, ◌++◌, length, filter, refl, subst, ap, arith}
use Rattle.std.proofs.Common.{length-append, rules}
use Rattle.std.specs.List.{AllByRecursion}
use Rattle.std.proofs.lemmas.Bool.Decides.{nat_tests}
use Rattle.mime.specs.{Bytes.comma_byte, HeaderLaws.IsSafePair, Laws.without_parameters, Values.MediaType, Values.Reads}
use Rattle.mime.proofs.HandedOut.{length-lowered, essence_is_read, kept_is_safe, token-size}
use Rattle.mime_http.specs.HttpMediaType.{IsHttpParameter, with_token, with_string, AreHttpParameters, no_more, semicolon, semicolon_and}
use Rattle.mime_http.specs.HttpMediaType.{HttpReads}
use Rattle.mime_http.specs.HttpList.{trimmed, IsPrinted, as_it_stands, anew, AreBetweenCommas, no_line, line_end, comma, AreSorted, no_text}
use Rattle.mime_http.specs.HttpList.{blank, a_range, a_bad, Header, IsHeader}
use Rattle.mime_http.specs.Written.{quote_of, text_of_pair, text_of_pairs, with_pairs}
use Rattle.mime_http.proofs.HandedOut.{text_of_parts, white_around, written_reads, http_is_answered, length-lowered_value}
use Rattle.mime_c.specs.Strings.{strings, ComeBack, parts_of, texts_of}
use Rattle.mime_c.specs.HeaderAnswers.{range_texts, ranges_texts}
use Rattle.mime_c.proofs.NoZero.{pair_texts, HasNoZero, come_back, no_zero-read, no_zero-pairs}
use Rattle.mime_c.proofs.Room.{lengths_of}
use Rattle.mime_c.proofs.Writing.{strings_of_texts, strings_of_range, strings_of_ranges}

-- ---- parameters

-- A quote is at most one byte.
length-quote_of : (value : List ℕ) → length (quote_of value) ≤ 1
length-quote_of value = search rules

-- A parameter has at most five bytes more than its name and its value.
pub length-pair : (name value : List ℕ) → length (text_of_pair (name, value)) ≤ length name + length value + 5
length-pair name value = omega (arith, length-quote_of value, length-append {A = ℕ})

-- The strings of a parameter have two bytes more than its name and its value.
length-strings_of_pair : (name value : List ℕ) (pairs : List (List ℕ × List ℕ))
    → length (strings (pair_texts ((name, value) ∷ pairs))) ≡ length name + length value + 2 + length (strings (pair_texts pairs))
length-strings_of_pair name value pairs = omega (arith, length-append {A = ℕ})

-- Parameters that pass a test are at most twice as many bytes as the strings of all.
kept_pairs : (test : List ℕ × List ℕ → Bool) (pairs : List (List ℕ × List ℕ)) → AllByRecursion IsSafePair pairs
    → length (text_of_pairs (filter test pairs)) ≤ 2 * length (strings (pair_texts pairs))
kept_pairs test [] are = omega arith
kept_pairs test ((name, value) ∷ pairs) (is, are) =
    let all = length-append (text_of_pair (name, value)) (text_of_pairs (filter test pairs)) in
    grind (arith, kept_pairs test pairs are, length-strings_of_pair name value pairs, token-size name is.0, length-pair name value, all)

-- All parameters pass a test that is always true.
filter_all : (pairs : List (List ℕ × List ℕ)) → filter (λ pair. true) pairs ≡ pairs
filter_all [] = refl
filter_all (pair ∷ pairs) = ap (λ rest. pair ∷ rest) (filter_all pairs)

-- ---- the media type of a value

-- The strings of a value's parameters are at most as many bytes as their text.
pairs_fit : {bytes : List ℕ} {pairs : List (List ℕ × List ℕ)} → AreHttpParameters bytes pairs
    → length (strings (pair_texts pairs)) ≤ length bytes
pairs_fit no_more = omega arith
pairs_fit (semicolon before after rest pairs wb wa are) = omega (arith, pairs_fit are, length-append {A = ℕ})
pairs_fit (semicolon_and before after parameter rest pair pairs wb wa is are) =
    omega (arith, pair_fits is, pairs_fit are, length-append {A = ℕ})
  where
    -- The strings of a parameter are at most one byte more than its text.
    pair_fits : {parameter : List ℕ} {pair : List ℕ × List ℕ} → IsHttpParameter parameter pair
        → length (strings (pair_texts (pair ∷ pairs))) ≤ length parameter + 1 + length (strings (pair_texts pairs))
    pair_fits (with_token name value named valued) =
        omega (arith, length-strings_of_pair, length-lowered, length-lowered_value, length-append {A = ℕ})
    pair_fits (with_string name content named is) =
        omega (arith, length-strings_of_pair, length-lowered, length-lowered_value, length-append {A = ℕ})

-- The essence and the strings of the parameters are at most as many bytes as the value.
pub sizes_of : (value : List ℕ) (media : MediaType) → HttpReads value media
    → (length media.essence + length (strings (pair_texts media.pairs)) ≤ length value) × (2 < length value)
sizes_of value media reads = search (pairs_fit, length-append, length-lowered, token-size, rules)

-- What is written anew for a value is read as its media type.
pub read_anew : (value : List ℕ) (media : MediaType) → HttpReads value media
    → (text : List ℕ) × Reads text (with_pairs media media.pairs)
read_anew value media reads =
    let is = http_is_answered value media reads in
    (text_of_parts is.0, subst (Reads (text_of_parts is.0)) is.2 (written_reads value is.0 is.1))

-- Parameters that are written anew have at most twice as many bytes as the strings of all.
pub anew_fits : (value : List ℕ) (media : MediaType) → HttpReads value media → (test : List ℕ × List ℕ → Bool)
    → length (text_of_pairs (filter test media.pairs)) ≤ 2 * length (strings (pair_texts media.pairs))
anew_fits value media reads test =
    let is = read_anew value media reads in kept_pairs test media.pairs (kept_is_safe is.0 (with_pairs media media.pairs) is.1).pairs

-- The strings of a value are at most three times as many bytes as the value, and two.
pub value_fits : (value : List ℕ) (media : MediaType) → HttpReads value media → IsPrinted value media
    → length (strings (texts_of media)) ≤ 3 * length value + 2
value_fits value media reads printed =
    omega (arith, ap length (strings_of_texts media), (sizes_of value media reads).0, kept_fits printed, length-append {A = ℕ})
  where
    -- A value is no shorter than it is without the white space around it.
    length-trimmed : length (trimmed value) ≤ length value
    length-trimmed = omega (arith, ap length (white_around value).4, length-append {A = ℕ})

    -- What is printed for a value is at most twice as many bytes.
    kept_fits : IsPrinted value media → length media.kept ≤ 2 * length value
    kept_fits (as_it_stands v m is) = omega (arith, (lengths_of (trimmed value) media is).0, length-trimmed)
    kept_fits (anew v m isnt is) =
        let all = ap (λ pairs. length (text_of_pairs pairs)) (filter_all media.pairs) in
        omega (
          arith,
          ap (λ (it : MediaType). length it.kept) is,
          all,
          anew_fits value media reads (λ pair. true),
          sizes_of value media reads,
          length-append {A = ℕ},
        )

-- ---- the strings of ranges

-- The strings of a range are at most three times as many bytes as its text with a comma.
range_fits : (text : List ℕ) (range : MediaType) → HttpReads text range
    → length (strings (range_texts range)) ≤ 3 * (length text + 1)
range_fits text range reads =
    let parts = length-append (range.essence ++ 0 ∷ []) (strings (pair_texts range.pairs)) in
    let last = length-append (strings (parts_of range)) (0 ∷ []) in
    omega (arith, sizes_of text range reads, parts, last, ap length (strings_of_range range), length-append range.essence (0 ∷ []))

-- How many bytes texts are with a comma after each.
abbrev total : List (List ℕ) → ℕ
total [] = 0
total (text ∷ texts) = length text + 1 + total texts

-- A line with a comma at its end is as many bytes as its pieces, with a comma after each.
total-cut : {Other Last : List ℕ → Type 0} (lines texts : List (List ℕ)) → AreBetweenCommas Other Last lines texts
    → total lines ≡ total texts
total-cut lines texts no_line = refl
total-cut lines texts (line_end text others rest last cut) = omega (arith, total-cut others rest cut)
total-cut lines texts (comma text line others rest other cut) =
    omega (arith, total-cut (line ∷ others) rest cut, length-append text (comma_byte ∷ line))

-- The strings of ranges are at most three times as many bytes as their texts, with a comma after each.
sorted_fit : (texts : List (List ℕ)) (ranges : List MediaType) (bad : List (List ℕ)) → AreSorted texts ranges bad
    → length (strings (ranges_texts ranges)) ≤ 3 * total texts
sorted_fit texts ranges bad no_text = omega arith
sorted_fit texts ranges bad (blank text rest _ _ white sorted) = omega (arith, sorted_fit rest ranges bad sorted)
sorted_fit texts ranges bad (a_range text range rest others _ utf8 reads _ sorted) =
    search (sorted_fit rest others bad sorted, strings_of_ranges, length-append, range_fits, rules)
sorted_fit texts ranges bad (a_bad text rest _ others some isnt sorted) = omega (arith, sorted_fit rest ranges others sorted)

-- The strings of a line's ranges are at most three times as many bytes as the line, and three.
pub ranges_fit : (line : List ℕ) (header : Header) → IsHeader (line ∷ []) header
    → length (strings (ranges_texts header.ranges)) ≤ 3 * length line + 3
ranges_fit line header is = omega (arith, total-cut (line ∷ []) is.pieces is.cut, sorted_fit is.pieces header.ranges header.bad is.sorted)

-- ---- no text of them has the byte 0

-- No text of a range has the byte 0.
no_zero-range : (text : List ℕ) (range : MediaType) → HttpReads text range → AllByRecursion HasNoZero (range_texts range)
no_zero-range text range reads =
    let read = read_anew text range reads in
    let media = with_pairs range range.pairs in
    let essence = no_zero-read range.essence (without_parameters media) (essence_is_read read.0 media read.1) in
    (grind (arith, nat_tests), (essence, no_zero-pairs range.pairs [] (kept_is_safe read.0 media read.1).pairs refl))

-- Two lists of texts without the byte 0 are one list of such texts.
both_none : (texts others : List (List ℕ)) → AllByRecursion HasNoZero texts → AllByRecursion HasNoZero others
    → AllByRecursion HasNoZero (texts ++ others)
both_none [] others none more = more
both_none (text ∷ texts) others (is, none) more = (is, both_none texts others none more)

-- No text of ranges has the byte 0.
no_zero-ranges : (texts : List (List ℕ)) (ranges : List MediaType) (bad : List (List ℕ)) → AreSorted texts ranges bad
    → AllByRecursion HasNoZero (ranges_texts ranges)
no_zero-ranges texts ranges bad no_text = tt
no_zero-ranges texts ranges bad (blank text rest _ _ white sorted) = no_zero-ranges rest ranges bad sorted
no_zero-ranges texts ranges bad (a_range text range rest others _ utf8 reads _ sorted) =
    both_none (range_texts range) (ranges_texts others) (no_zero-range text range reads) (no_zero-ranges rest others bad sorted)
no_zero-ranges texts ranges bad (a_bad text rest _ others some isnt sorted) = no_zero-ranges rest ranges others sorted

-- The strings of ranges come back.
pub ranges_come_back : (lines : List (List ℕ)) (header : Header) → IsHeader lines header → ComeBack (ranges_texts header.ranges)
ranges_come_back lines header is = come_back (ranges_texts header.ranges) (no_zero-ranges is.pieces header.ranges header.bad is.sorted)
