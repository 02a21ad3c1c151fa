-- Lists as HTTP writes them are read as their elements, and what is read with nothing bad are such lists.
use Rattle.std.proofs.Common.{rules}
use Rattle.std.specs.Str.{is_utf8}
use Rattle.std.proofs.lemmas.Str.{IsUtf8-from_is_utf8, is_utf8-from_IsUtf8}
use Rattle.mime_http.proofs.Common.{Answer, FirstBad, Header, IsHeader, IsUtf8, OneFirstBad, after_blank, after_range, arith, bad_here, inl}
use Rattle.mime_http.proofs.Common.{inr, length, lines_or_any, list_all, media_of_parts, rejected, suc, true≢false, ◌⊎◌, ◌≢◌, At, Outside}
use Rattle.mime_http.proofs.Common.{State}
use Rattle.mime_http.proofs.Common.{Parts, MatchOption, MatchOption-at_some, MissingSlash, by_option, next, ends_piece, after, answer_of}
use Rattle.mime_http.proofs.Common.{answer_from, answer_at_end, read, before_type, in_subtype, in_value, in_string, is_quoted_byte, ◌+◌}
use Rattle.mime_http.proofs.Common.{AreBetweenCommas, AreElements, AreSame, AreSorted, AreSpaces, BadIsAlone, BeginsPiece, HttpListsAreRead}
use Rattle.mime_http.proofs.Common.{HttpReads, IsAccepted, IsHttpMediaType, IsPiece, IsPrinted, List, MediaType, OneHeader}
use Rattle.mime_http.proofs.Common.{ReadAreHttpLists, [], a_bad, a_range, accepted_or_rejected, and_parts, anew, ap, append-nil, arith}
use Rattle.mime_http.proofs.Common.{as_it_stands, comma, element, false, is_space, is_token_byte, line_end, nat_tests, no_line, no_text}
use Rattle.mime_http.proofs.Common.{nothing, piece_byte, piece_end, refl, sym, trimmed, with_pairs, ℕ, ⊎_elim, ⊤, ◌∙◌, ◌∷◌, ◌≡◌, Equals}
use Rattle.mime_http.proofs.Common.{Paired, awaits_after, awaits_after-append, cases_Bool, if◌then◌else◌}
use Rattle.mime_http.specs.HttpList.{blank}
use Rattle.mime_http.specs.LineCut.{Quoted}
use Rattle.mime_http.proofs.Around.{reads_around, white_more}
use Rattle.mime_http.proofs.HttpLaws.{one_printed_text, same_anew}
use Rattle.mime_http.proofs.PlainIsHttp.{plain_is_http}
use Rattle.mime_http.proofs.Takes.{sorted_both}
use Rattle.mime_http.proofs.Cuts.{IsOutside, IsWhole, is_piece, one_cut, only_cut, opens_none}
use Rattle.mime_http.proofs.ReadBack.{answered_is_http}
use Rattle.mime_http.proofs.ReadFaults.{rejected_is_none}
use Rattle.mime_http.proofs.ReadForth.{http_is_answered}
use Rattle.mime_http.proofs.Runs.{keeps_before, over_white}
use Rattle.mime_http.specs.ListLaws.{no_element}

-- ---- what HTTP writes has no comma outside strings

-- The place in a line of the next byte, in each state of reading one of its pieces.
abbrev place_of : State → At
place_of (in_value parts name []) = Equals
place_of (in_string parts name content) = if awaits_after false content then Paired else Quoted
place_of state = Outside

-- A byte that reading goes on with ends no piece, and leads to the place of the next state.
follows : (state : State) (b : ℕ)
    → MatchOption (next state b) ⊤ (λ next. (ends_piece (place_of state) b ≡ false) × (after (place_of state) b ≡ place_of next))
unfolding is_token_byte is_quoted_byte
follows (in_subtype top []) b = grind (arith, nat_tests)
follows (in_subtype top (s ∷ sub)) b = grind (arith, nat_tests)
follows (in_value parts name []) b = grind (arith, nat_tests)
follows (in_value parts name (v ∷ value)) b = grind (arith, nat_tests)
follows (in_string parts name content) b = search (nat_tests, awaits_after-append, cases_Bool, rules)
follows state b = grind (arith, nat_tests)

-- What is read ends in no string, and no piece ends before.
whole_from : (bytes : List ℕ) (state : State) (at : ℕ) (parts : Parts) → answer_from state at bytes ≡ read parts
    → IsWhole (place_of state) bytes
whole_from [] state at parts is = ended state is
  where
    ended : (state : State) → answer_at_end state ≡ read parts → IsOutside (place_of state)
    ended (in_value _ name []) is = absurd cc
    ended (in_string _ name content) is = absurd cc
    ended state is = tt
whole_from (b ∷ bytes) state at parts is = by_option (next state b) (λ stops. absurd (cc (rw stops at is))) (λ next goes.
    let Leads = λ (next : State). (ends_piece (place_of state) b ≡ false) × (after (place_of state) b ≡ place_of next) in
    let it = MatchOption-at_some ⊤ Leads next goes (follows state b) in
    (it.0, rw it.1 (whole_from bytes next (at + 1) parts (rw goes at is))))

-- A media type as HTTP writes it is a piece.
http_is_piece : {value : List ℕ} {media : MediaType} → HttpReads value media → IsPiece value
http_is_piece {value} {media} reads =
    let answered = http_is_answered value media reads in is_piece Outside value (whole_from value before_type 0 answered.0 answered.1)

-- White space is a piece.
spaces_are_piece : (white : List ℕ) → AreSpaces white → IsPiece white
spaces_are_piece [] all = piece_end
spaces_are_piece (b ∷ white) all =
    search (spaces_are_piece white (and_parts (is_space b) _ all).1, and_parts, is_space, piece_byte, nat_tests, opens_none, rules)

-- A piece begins one.
starts : {text : List ℕ} → IsPiece text → BeginsPiece text
starts {text} is = ([], rw (append-nil text) is)

-- ---- forth

-- An element has no comma outside strings, so it is a piece.
are_pieces : {lines texts : List (List ℕ)} {media : List MediaType} → AreBetweenCommas (λ text. ⊤) (λ text. ⊤) lines texts
    → AreElements texts media → AreBetweenCommas IsPiece BeginsPiece lines texts
are_pieces no_line are = no_line
are_pieces (line_end _ _ _ _ rest) (nothing _ _ _ white more) = line_end _ _ _ (starts (spaces_are_piece _ white)) (are_pieces rest more)
are_pieces (line_end _ _ _ _ rest) (element _ _ _ _ _ reads more) = line_end _ _ _ (starts (http_is_piece reads)) (are_pieces rest more)
are_pieces (comma _ line _ _ _ rest) (nothing _ _ _ white more) = comma _ line _ _ (spaces_are_piece _ white) (are_pieces rest more)
are_pieces (comma _ line _ _ _ rest) (element _ _ _ _ _ reads more) = comma _ line _ _ (http_is_piece reads) (are_pieces rest more)

-- A media type without its kept text.
abbrev without_kept : MediaType → MediaType
without_kept media = record media { kept = [] }

-- A text of one media type is printed in some way.
printed : (text : List ℕ) (media : MediaType) → HttpReads text media
    → (range : MediaType) × HttpReads text range × IsPrinted text range × (without_kept range ≡ without_kept media)
printed text media reads = ⊎_elim (λ (plain : IsAccepted (trimmed text)).
    let http = reads_around text plain.0 (plain_is_http (trimmed text) plain.0 plain.1) in
    (plain.0, http, as_it_stands text plain.0 plain.1, ap without_kept (same_anew text plain.0 media http reads)))
    (λ (rejected : ¬ (IsAccepted (trimmed text))).
    let range = with_pairs media media.pairs in
    (range, white_more media.kept [] [] refl refl reads (append-nil text), anew text range rejected refl, refl))
    (accepted_or_rejected (trimmed text))

-- Elements are sorted as ranges.
sorted_elements : {texts : List (List ℕ)} {media : List MediaType} → AreElements texts media
    → (ranges : List MediaType) × AreSame ranges media × AreSorted texts ranges []
sorted_elements no_element = ([], refl, no_text)
sorted_elements (nothing text texts media white rest) =
    let more = sorted_elements rest in (more.0, more.1, blank text texts more.0 [] white more.2)
sorted_elements (element text range texts media utf8 reads rest) =
    let more = sorted_elements rest in
    let is = printed text range reads in
    (is.0 ∷ more.0, λ i. is.3 i ∷ more.1 i, a_range text is.0 texts _ [] utf8 is.1 is.2 more.2)

-- A list as HTTP writes it is read as its elements.
pub http_lists_are_read : HttpListsAreRead
http_lists_are_read lines media lists = search (sorted_elements, are_pieces, rules)

-- ---- and back

-- Pieces are texts between commas.
of_any : {lines texts : List (List ℕ)} → AreBetweenCommas IsPiece BeginsPiece lines texts
    → AreBetweenCommas (λ text. ⊤) (λ text. ⊤) lines texts
of_any no_line = no_line
of_any (line_end text lines texts _ rest) = line_end text lines texts tt (of_any rest)
of_any (comma text line lines texts is rest) = comma text line lines texts tt (of_any rest)

-- Texts of which none is bad are elements.
elements_of : {texts : List (List ℕ)} {ranges : List MediaType} → AreSorted texts ranges [] → AreElements texts ranges
elements_of no_text = no_element
elements_of (blank text texts ranges _ white rest) = nothing text texts ranges white (elements_of rest)
elements_of (a_range text range texts ranges _ utf8 reads kept rest) = element text range texts ranges utf8 reads (elements_of rest)

-- What is read with nothing bad is such a list.
pub read_are_http_lists : ReadAreHttpLists
read_are_http_lists lines header is none = search (of_any, elements_of, rules)

-- ---- pieces are sorted in one way

-- White space is no media type, which begins with a token byte after white space.
pub http_is_not_blank : {piece : List ℕ} → AreSpaces piece → ¬ (IsHttpMediaType piece)
http_is_not_blank {piece} white =
    rejected_is_none piece MissingSlash (ap answer_of (sym (append-nil piece)) ∙ over_white before_type keeps_before piece white 0 [])

-- Texts are sorted in one way.
one_sorting : {texts : List (List ℕ)} {ranges others : List MediaType} {bad poor : List (List ℕ)} → AreSorted texts ranges bad
    → AreSorted texts others poor → (ranges ≡ others) × (bad ≡ poor)
one_sorting no_text no_text = (refl, refl)
one_sorting (blank text _ _ _ white rest) (blank _ _ _ _ _ more) = one_sorting rest more
one_sorting (blank text _ _ _ white rest) (a_range _ media _ _ _ _ reads _ more) = absurd (http_is_not_blank white (media, reads))
one_sorting (blank text _ _ _ white rest) (a_bad _ _ _ _ not_blank _ more) = absurd (not_blank white)
one_sorting (a_range text media _ _ _ utf8 reads _ rest) (blank _ _ _ _ white more) = absurd (http_is_not_blank white (media, reads))
one_sorting (a_range text media _ _ _ utf8 reads printed rest) (a_range _ other _ _ _ _ again likewise more) =
    search (one_sorting rest more, one_printed_text, rules)
one_sorting (a_range text media _ _ _ utf8 reads _ rest) (a_bad _ _ _ _ _ isnt more) = absurd (isnt (utf8, (media, reads)))
one_sorting (a_bad text _ _ _ not_blank isnt rest) (blank _ _ _ _ white more) = absurd (not_blank white)
one_sorting (a_bad text _ _ _ not_blank isnt rest) (a_range _ media _ _ _ utf8 reads _ more) = absurd (isnt (utf8, (media, reads)))
one_sorting (a_bad text _ _ _ not_blank isnt rest) (a_bad _ _ _ _ _ _ more) = search (one_sorting rest more, rules)

-- Lines are read as one header.
pub one_header : OneHeader
one_header lines header other first second = search (one_sorting, only_cut, rules)

-- ---- each line has a header

-- A text is UTF-8 or isn't.
pub utf8_or_not : (text : List ℕ) → IsUtf8 text ⊎ ¬ (IsUtf8 text)
utf8_or_not text =
    ⊎_elim (λ is. inl (IsUtf8-from_is_utf8 text is))
    (λ isnt. inr (λ utf8. true≢false (sym (is_utf8-from_IsUtf8 text utf8) ∙ isnt)))
    (cases_Bool (is_utf8 text))

-- A value is a media type as HTTP writes it, and is printed in some way, or it isn't one.
pub read_or_not : (value : List ℕ) → ((media : MediaType) × HttpReads value media × IsPrinted value media)
    ⊎ ¬ (IsHttpMediaType value)
read_or_not value = by_answer (answer_of value) refl
  where
    by_answer : (answer : Answer) → answer_of value ≡ answer
        → ((media : MediaType) × HttpReads value media × IsPrinted value media) ⊎ ¬ (IsHttpMediaType value)
    by_answer (read parts) is = let it = printed value (media_of_parts parts) (answered_is_http value parts is) in inl (it.0, it.1, it.2)
    by_answer (rejected fault) is = inr (rejected_is_none value fault is)

-- This is what texts are sorted as.
abbrev Sorting : List (List ℕ) → Type 0
Sorting texts = (ranges : List MediaType) × (bad : List (List ℕ)) × AreSorted texts ranges bad

module _ (text : List ℕ) {texts : List (List ℕ)} (rest : Sorting texts) (some : ¬ (AreSpaces text)) where
  -- A text that is no media type, nor only white space, is sorted as bad.
  with_bad_text : ¬ (IsUtf8 text × IsHttpMediaType text) → Sorting (text ∷ texts)
  with_bad_text isnt = (rest.0, trimmed text ∷ rest.1, a_bad text texts rest.0 rest.1 some isnt rest.2)

  -- A text that isn't only white space is sorted as a range or as bad.
  with_text : Sorting (text ∷ texts)
  with_text = ⊎_elim (λ utf8.
      ⊎_elim (λ is. (is.0 ∷ rest.0, rest.1, a_range text is.0 texts rest.0 rest.1 utf8 is.1 is.2 rest.2))
      (λ isnt. with_bad_text (λ both. isnt both.1)) (read_or_not text)) (λ isnt. with_bad_text (λ both. isnt both.0)) (utf8_or_not text)

-- Texts are sorted in some way.
sorting : (texts : List (List ℕ)) → Sorting texts
sorting [] = ([], [], no_text)
sorting (text ∷ texts) =
    let rest = sorting texts in
    ⊎_elim (λ white. (rest.0, rest.1, blank text texts rest.0 rest.1 white rest.2))
    (λ some. with_text text rest (λ white. true≢false (sym white ∙ some))) (cases_Bool (list_all is_space text))

-- Lines have a header.
pub header_of : (lines : List (List ℕ)) → (header : Header) × IsHeader lines header
header_of lines =
    let cut = one_cut (lines_or_any lines) in
    let sorted = sorting cut.0 in
    (record { ranges = sorted.0; bad = sorted.1 }, record { pieces = cut.0; cut = cut.1; sorted = sorted.2 })

-- ---- the first bad entry

-- Texts have at most one first bad text.
one_first : {texts : List (List ℕ)} {at other : ℕ} → FirstBad texts at → FirstBad texts other → other ≡ at
one_first (bad_here _ _ _ _) (bad_here _ _ _ _) = refl
one_first (bad_here _ _ some _) (after_blank _ _ _ white _) = absurd (some white)
one_first (bad_here _ _ _ isnt) (after_range _ _ _ utf8 is _) = absurd (isnt (utf8, is))
one_first (after_blank _ _ _ white _) (bad_here _ _ some _) = absurd (some white)
one_first (after_blank _ _ _ _ rest) (after_blank _ _ _ _ more) = one_first rest more
one_first (after_blank _ _ _ white _) (after_range _ _ _ _ is _) = absurd (http_is_not_blank white is)
one_first (after_range _ _ _ utf8 is _) (bad_here _ _ _ isnt) = absurd (isnt (utf8, is))
one_first (after_range _ _ _ _ is _) (after_blank _ _ _ white _) = absurd (http_is_not_blank white is)
one_first (after_range _ _ _ _ _ rest) (after_range _ _ _ _ _ more) = ap suc (one_first rest more)

-- Sorted texts have a first bad text exactly if one of them is bad.
first_if_bad : {texts : List (List ℕ)} {ranges : List MediaType} {bad : List (List ℕ)} → AreSorted texts ranges bad → bad ≢ []
    → (at : ℕ) × FirstBad texts at
first_if_bad no_text some = absurd (some refl)
first_if_bad (blank text texts _ _ white rest) some = let it = first_if_bad rest some in (it.0, after_blank text texts it.0 white it.1)
first_if_bad (a_range text range texts _ _ utf8 reads _ rest) some =
    let it = first_if_bad rest some in (suc it.0, after_range text texts it.0 utf8 (range, reads) it.1)
first_if_bad (a_bad text texts _ _ not_blank isnt rest) some = (0, bad_here text texts not_blank isnt)

-- Texts with a first bad text are sorted with a bad text.
bad_if_first : {texts : List (List ℕ)} {ranges : List MediaType} {bad : List (List ℕ)} {at : ℕ} → AreSorted texts ranges bad
    → FirstBad texts at → bad ≢ []
bad_if_first {at = at} no_text first = elim first [ ]
bad_if_first (blank _ _ _ _ white _) (bad_here _ _ some _) = absurd (some white)
bad_if_first (blank _ _ _ _ _ rest) (after_blank _ _ _ _ first) = bad_if_first rest first
bad_if_first (blank _ _ _ _ white _) (after_range _ _ _ _ is _) = absurd (http_is_not_blank white is)
bad_if_first (a_range _ media _ _ _ utf8 reads _ _) (bad_here _ _ _ isnt) = absurd (isnt (utf8, (media, reads)))
bad_if_first (a_range _ media _ _ _ _ reads _ _) (after_blank _ _ _ white _) = absurd (http_is_not_blank white (media, reads))
bad_if_first (a_range _ _ _ _ _ _ _ _ rest) (after_range _ _ _ _ _ first) = bad_if_first rest first
bad_if_first (a_bad _ _ _ _ _ _ _) first = λ none. absurd (omega (arith, ap length none))

-- A header has one first bad entry if an entry is bad, and otherwise none.
pub one_first_bad : OneFirstBad
one_first_bad lines header is = search (first_if_bad, only_cut, bad_if_first, one_first, rules)

-- A bad piece changes nothing of those before it and after it.
pub bad_is_alone : BadIsAlone
bad_is_alone lines others before after entry ranges more bad worse first last some isnt with_it without =
    search (after, sorted_both, a_bad, rules)
