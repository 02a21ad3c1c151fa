-- Heads and offers have one report, with one verdict, so that a page that says less doesn't check; and rows, reports and verdicts for which
-- each definition is true.
use Rattle.mime_headers.proofs.Common.{AddsFinding, AddsType, AreOffers, Bool, Err, FieldError, FoldsTo, Global, BoundaryIs, Finding, List}
use Rattle.mime_headers.proofs.Common.{MediaType, None, Ok, Option, Result, Some, String, [], a_word, ap, arith, bad_word, codes, false}
use Rattle.mime_headers.proofs.Common.{flat_map, if◌then◌else◌, is_some, findings_in, lacks_text, length, map, no_word, offer_rows, refl}
use Rattle.mime_headers.proofs.Common.{row, rules, shown, start, string_bytes, sym, true, without_controls, without_escapes, ℕ, ◌++◌, ◌<◌}
use Rattle.mime_headers.proofs.Common.{◌==◌, ◌||◌, ◌∙◌, ◌∷◌, ◌≡◌}
use Rattle.mime.specs.declared.scan.fault.ParseError.TheVariants.{MissingSubtype}
use Rattle.mime_headers.specs.Head.{Head, head, stray}
use Rattle.mime_headers.specs.Line.{plain_lines}
use Rattle.mime_headers.specs.Report.{AddsAccept, AddsChoice, AddsEntry, AddsHead, AddsMissing, AddsRequest, AddsResponse, AddsTypes}
use Rattle.mime_headers.specs.Report.{AddsWeights, HasReading, IsReport, IsReportOf, IsWeighed, Progress, best_row, byte_text, count_row}
use Rattle.mime_headers.specs.Report.{decider, empty_row, expects_type, fault_rows, is_altered, is_cut, media_rows, numbered, offer_row}
use Rattle.mime_headers.specs.Report.{range_row, title_rows, verdict_of, weight_text, with_entry}
use Rattle.mime_headers.specs.Shown.{control_len}
use Rattle.mime_headers.specs.declared.report.Verdict.{Verdict}
use Rattle.mime_headers.specs.declared.start.Kind.{Kind}
use Rattle.mime_http.proofs.HandedOut.{no_field_error, one_field_error, one_printed_text, one_ranking, only_cut, plain_is_http}
use Rattle.mime_http.specs.HttpList.{trimmed, AreBetweenCommas, AreBetweenCommas.comma, AreBetweenCommas.line_end}
use Rattle.mime_http.specs.HttpList.{AreBetweenCommas.no_line, BeginsPiece, IsPiece, IsPiece.piece_byte, IsPiece.piece_end}
use Rattle.mime_http.specs.HttpMediaType.{IsHttpMediaType}
use Rattle.mime_http.specs.HttpPrinted.{field_error_text}
use Rattle.mime_http.specs.declared.ranking.RankedOffer.{RankedOffer}
use Rattle.mime_http.specs.declared.value.FieldError.TheVariants.{Invalid, NotUtf8}
use Rattle.std.proofs.Common.{filter, lit<, not}
use Rattle.std.proofs.lemmas.{Bool.Decides.nat_tests, Bool.and_parts, Bool.true≢false, List.Elements.All-contains}
use Rattle.std.specs.{Fmt.digits, List.list_all, Str.IsUtf8}
use Rattle.mime.specs.{Bytes.is_token_byte, Grammar.IsWellFormed, Grammar.SyntaxTree, Grammar.no_list, Grammar.text_of, Values.Reads}
use Rattle.mime.specs.{Values.value_of}
use Rattle.mime_http.specs.{HttpList.IsPrinted.as_it_stands, Ranges.merit_at, Ranking.IsRanking, Ranking.ranked_as}
use Rattle.mime_headers.specs.{Line.begins_sign, Start.is_request_line, Start.is_version, Head.mark_of_fields, Program.head_error_text}
use Rattle.mime_headers.specs.{Report.AddsLines, Report.has_plain_weight, declared.error.HeadError.TheVariants.NoHead}
use Rattle.mime_headers.specs.{declared.field.Name.TheVariants.Accept, declared.field.Name.TheVariants.ContentType}

-- ---- one report

-- A value is read in one way.
one_reading : (value : List ℕ) (one other : Result MediaType FieldError) → HasReading value one → HasReading value other → one ≡ other
one_reading value (Ok media) (Ok other) is too = ap Ok (one_printed_text value media other is.1 is.2 too.1 too.2)
one_reading value (Ok media) (Err error) is why = absurd (no_field_error value error is.0 (media, is.1) why.0 why.1)
one_reading value (Err error) (Ok media) why is = absurd (no_field_error value error is.0 (media, is.1) why.0 why.1)
one_reading value (Err error) (Err other) why too = ap Err (one_field_error value error other why.0 too.0 why.1 too.1)

-- A media type has one boundary or none.
one_boundary : (media : MediaType) (one other : Option (List ℕ)) → BoundaryIs media one → BoundaryIs media other → one ≡ other
one_boundary media None None none again = refl
one_boundary media None (Some bytes) none is = absurd (none bytes is)
one_boundary media (Some bytes) None is none = absurd (none bytes is)
one_boundary media (Some bytes) (Some other) is too = sym is.found ∙ too.found

-- An entry adds one text.
one_entry : (p : List ℕ × List MediaType) (text : List ℕ) (q r : List ℕ × List MediaType) → AddsEntry p text q → AddsEntry p text r → q ≡ r
one_entry old [] new other one two = one.0 refl ∙ sym (two.0 refl)
one_entry old (b ∷ entry) new other one two = search (one_reading, rules)

-- What is added in a row is one text, if each does.
one_of_all : {P A : Type 0} (R : P → A → P → Type 0) → ((p : P) (x : A) (q r : P) → R p x q → R p x r → q ≡ r)
    → (p : P) (xs : List A) (q r : P) → FoldsTo R p xs q → FoldsTo R p xs r → q ≡ r
one_of_all R one p [] q r is too = sym is ∙ too
one_of_all R one p (x ∷ xs) q r (j, is, rest) (k, too, more) = one_of_all R one k xs q r (rw (one p x j k is too) at rest) more

-- A media type is weighed in one way.
one_weighed : (label : List ℕ) (ranges : Option (List MediaType)) (media : Option MediaType) (one other : List ℕ × Bool)
    → IsWeighed label ranges media one → IsWeighed label ranges media other → one ≡ other
one_weighed label None media one other is too = is ∙ sym too
one_weighed label (Some ranges) None one other is too = is ∙ sym too
one_weighed label (Some ranges) (Some media) one other (a, is, rows) (b, too, more) =
    cc (rows, more, one_ranking ranges (media ∷ []) a b is too)

-- A value of `Content-Type` adds one text.
one_type : (old : List ℕ × Bool × Option MediaType) (value : List ℕ) (new other : List ℕ × Bool × Option MediaType)
    → AddsType old value new → AddsType old value other → new ≡ other
one_type old value new other (Ok media, is, one) (another, too, two) =
    let more = rw (← one_reading (trimmed value) (Ok media) another is too) at two in
    cc (one.2, more.2, one_boundary media one.0 more.0 one.1 more.1)
one_type old value new other (Err error, is, one) (another, too, two) =
    one ∙ sym (rw (← one_reading (trimmed value) (Err error) another is too) at two)

-- The values of a head add one text, and one media type is the only one.
one_of_types : (many : Bool) (old : Progress) (it : Head) (only another : Option MediaType) (new other : Progress)
    → AddsTypes many old it only new
    → AddsTypes many old it another other → (only ≡ another) × (new ≡ other)
one_of_types many old it only another new other (a, answer, types, is, weighs, one) (b, reply, again, also, too, two) =
    let same = one_of_all AddsType one_type _ _ _ _ types again in
    let alone : only ≡ another = cc (is, also, same) in
    let replies = one_weighed (codes "answer ") _ _ _ _ (rw alone at weighs) too in
    (alone, cc (one, two, same, replies))

-- Lines of `Accept` add one text, and have the same ranges.
one_accept : (lines : List (List ℕ)) (old : List ℕ) (new other : List ℕ × Option (List MediaType)) → AddsAccept lines old new
    → AddsAccept lines old other → new ≡ other
one_accept [] old new other one two = one.0 refl ∙ sym (two.0 refl)
one_accept (line ∷ lines) old new other one two =
    let adds = one.1 (omega arith) in
    let more = two.1 (omega arith) in
    let same = only_cut adds.1.1 ∙ sym (only_cut more.1.1) in
    cc (adds.2, more.2, one_of_all AddsEntry one_entry _ _ _ _ (rw same at adds.1.2) more.1.2)

-- Ranges make one choice.
one_choice : (offers : List MediaType) (ranges : Option (List MediaType)) (old new other : Progress) → AddsChoice offers ranges old new
    → AddsChoice offers ranges old other → new ≡ other
one_choice offers None old new other one two = one ∙ sym two
one_choice offers (Some ranges) old new other (a, is, one) (b, too, two) = cc (one, two, one_ranking ranges offers a b is too)

-- The weights by a head's `Accept` are the same.
one_request : (offers : List MediaType) (ranges : Option (List MediaType)) (only : Option MediaType) (old new other : Progress)
    → AddsRequest offers ranges only old new → AddsRequest offers ranges only old other → new ≡ other
one_request offers ranges only old new other (a, is, one) (b, too, two) = cc (one, two, one_choice offers ranges old a b is too)

one_response : (ranges : Option (List MediaType)) (old new other : Progress) → AddsResponse ranges old new → AddsResponse ranges old other
    → new ≡ other
one_response ranges old new other (a, is, one) (b, too, two) = cc (one, two, one_weighed (codes "request ") ranges old.sent a b is too)

one_of_weights : (kind : Kind) (offers : List MediaType) (ranges : Option (List MediaType)) (only : Option MediaType) (old new other :
    Progress)
    → AddsWeights kind offers ranges only old new → AddsWeights kind offers ranges only old other → new ≡ other
one_of_weights Kind.Fields offers ranges only old new other one two = one_request offers ranges only old new other one two
one_of_weights Kind.Request offers ranges only old new other one two = one_request offers ranges only old new other one two
one_of_weights Kind.Interim offers ranges only old new other one two = one ∙ sym two
one_of_weights Kind.Final offers ranges only old new other one two = one_response ranges old new other one two

-- A head adds one text, and so does any finding.
one_head : (offers : List MediaType) (many : Bool) (old : Progress) (it : Head) (new other : Progress) → AddsHead offers many old it new
    → AddsHead offers many old it other → new ≡ other
one_head offers many old it new other (a, only, reads, types, accepts, weighs) (b, another, again, also, too, more) =
    let same = one_of_types many old it only another a b types also in
    let read = one_accept _ _ _ _ (rw same.1 at accepts) too in
    one_of_weights it.kind offers _ _ _ _ _ (rw read at (rw same.1 at (rw same.0 at weighs))) more

one_finding : (offers : List MediaType) (many : Bool) (old : Progress) (finding : Finding) (new other : Progress)
    → AddsFinding offers many old finding new → AddsFinding offers many old finding other → new ≡ other
one_finding offers many old (head it) new other one two = one_head offers many old it new other one two
one_finding offers many old (stray line) new other one two = one ∙ sym two

-- What is missing adds one text.
one_missing : (offers : List MediaType) (old new other : Progress) → AddsMissing offers old new → AddsMissing offers old other → new ≡ other
one_missing offers old new other one two = by (length offers == 0 || is_some old.choice) refl
  where
    by : (is_known : Bool) → (length offers == 0 || is_some old.choice) ≡ is_known → new ≡ other
    by true is = one.0 is ∙ sym (two.0 is)
    by false is =
        let adds = one.1 is in
        let more = two.1 is in
        let read = one_entry (old.text ++ codes "no Accept\n", []) (codes "*/*") adds.0 more.0 adds.1 more.1 in
        one_choice offers (Some more.0.1) (record old { text = more.0.0 }) new other (rw read at adds.2) more.2

-- Bytes and offers have one report, with one verdict.
one_report : (offers : List MediaType) (bytes text other : List ℕ) (verdict another : Verdict) → IsReportOf offers bytes text verdict
    → IsReportOf offers bytes other another → (text ≡ other) × (verdict ≡ another)
one_report offers bytes text other verdict another one two =
    let same = one_of_all _ (one_finding offers _) _ _ _ _ one.adds.1 two.adds.1 in
    let last = one_missing offers _ _ _ (rw same at one.adds.2) two.adds.2 in
    (cc (one.is_text, two.is_text, last), cc (one.is_verdict, two.is_verdict, last))

-- ---- what is read

-- A type and a subtype without parameters.
abbrev tree : List ℕ → List ℕ → SyntaxTree
tree top sub = record { top = top; sub = sub; tail = no_list }

abbrev media_of : List ℕ → List ℕ → MediaType
media_of top sub = value_of (tree top sub)

-- Two tokens are read, and printed as they stand, if they are in lowercase.
read : (top sub : List ℕ) → IsWellFormed (tree top sub) → IsUtf8 (text_of (tree top sub))
    → trimmed (text_of (tree top sub)) ≡ text_of (tree top sub) → HasReading (text_of (tree top sub)) (Ok (media_of top sub))
read top sub fine utf8 without_returns =
    let reads : Reads (text_of (tree top sub)) (media_of top sub) =
    record { tree = tree top sub; well_formed = fine; spelled = refl; valued = refl } in
    (utf8, plain_is_http _ _ reads, as_it_stands _ _ (rw without_returns reads))

abbrev first : MediaType
first = media_of (codes "a") (codes "b")

abbrev second : MediaType
second = media_of (codes "c") (codes "d")

first_read : HasReading (codes "a/b") (Ok first)
unfolding is_token_byte lib.Utf8.encode
first_read = read (codes "a") (codes "b") (refl, refl, tt) (codes "a/b", (refl, refl)) refl

second_read : HasReading (codes "c/d") (Ok second)
unfolding is_token_byte lib.Utf8.encode
second_read = read (codes "c") (codes "d") (refl, refl, tt) (codes "c/d", (refl, refl)) refl

-- An entry that is read adds its row.
an_entry : (old : List ℕ × List MediaType) (b : ℕ) (entry : List ℕ) (range : MediaType) → HasReading (b ∷ entry) (Ok range)
    → AddsEntry old (b ∷ entry) (with_entry old (b ∷ entry) (Ok range))
an_entry old b entry range is = ((λ none. absurd (omega (arith, none))), λ _. (Ok range, is, refl))

-- One offer has a ranking.
one_offer : (ranges : List MediaType) (offer : MediaType)
    → IsRanking ranges (offer ∷ []) (ranked_as (length ranges) (merit_at ranges (offer ∷ []) 0) 0 ∷ [])
one_offer ranges offer = record {
  order = 0 ∷ [];
  best_first = λ i j d before within. absurd (omega (arith, before, within));
  all = λ at. (
    All-contains (λ n. n < 1) (0 ∷ []) at (λ k d within. grind (arith, within)),
    λ within. (0, omega arith, omega (arith, within)),
  );
  given = refl;
}

-- ---- a whole report

-- A request whose `Accept` has two entries, an interim response with a line in no head after it, another request, and a final response
-- without a `Content-Type`, with an `Accept`.
abbrev exchange : List ℕ
exchange = codes "> GET / HTTP/1.1\n> Accept: a/b, c/d\n>\n< HTTP/1.1 100 \n* Content-Type: e\n"
    ++ codes "> GET / HTTP/1.1\n< HTTP/1.1 200 \n< Accept: a/b"

abbrev exchange_lines : List (List ℕ)
exchange_lines = codes "> GET / HTTP/1.1" ∷ codes "> Accept: a/b, c/d" ∷ codes ">" ∷ codes "< HTTP/1.1 100 " ∷ codes "* Content-Type: e"
    ∷ codes "> GET / HTTP/1.1" ∷ codes "< HTTP/1.1 200 " ∷ codes "< Accept: a/b" ∷ []

abbrev exchange_findings : List Finding
exchange_findings = head (record { kind = Kind.Request; texts = codes "GET / HTTP/1.1" ∷ codes "Accept: a/b, c/d" ∷ [] })
    ∷ head (record { kind = Kind.Interim; texts = codes "HTTP/1.1 100 " ∷ [] }) ∷ stray (codes "* Content-Type: e")
    ∷ head (record { kind = Kind.Request; texts = codes "GET / HTTP/1.1" ∷ [] })
    ∷ head (record { kind = Kind.Final; texts = codes "HTTP/1.1 200 " ∷ codes "Accept: a/b" ∷ [] }) ∷ []

no_escape : (bytes : List ℕ) → list_all (λ b. not (b == 27)) bytes ≡ true → without_escapes bytes ≡ bytes
no_escape [] are = refl
no_escape (b ∷ bytes) are = grind (arith, and_parts, nat_tests, are, no_escape bytes)

lines_are : plain_lines false exchange ≡ exchange_lines
lines_are = refl

findings_are : findings_in false exchange_lines ≡ exchange_findings
unfolding begins_sign is_request_line is_token_byte is_version mark_of_fields
findings_are = refl

abbrev exchange_report : List ℕ
exchange_report = codes "head GET / HTTP/1.1\nAccept 1.000 a/b\nAccept 1.000 c/d\noffer 1.000 a/b by 1 a/b\nbest a/b\nhead HTTP/1.1 100 \n"
    ++ codes "not in a head: * Content-Type: e\nhead GET / HTTP/1.1\nhead HTTP/1.1 200 \nno Content-Type\nAccept 1.000 a/b\n"

first_piece : IsPiece (codes "a/b")
first_piece = piece_byte 97 _ refl refl (piece_byte 47 _ refl refl (piece_byte 98 [] refl refl piece_end))

-- Lines of one entry, and of two, of which the second has white space before it.
one_read : (old : List ℕ) → AddsLines (codes "a/b" ∷ []) (old, []) (with_entry (old, []) (codes "a/b") (Ok first))
one_read old = (_, line_end (codes "a/b") [] [] ([], first_piece) no_line, (_, an_entry _ 97 _ first first_read, refl))

two_cut : AreBetweenCommas IsPiece BeginsPiece (codes "a/b, c/d" ∷ []) (codes "a/b" ∷ codes " c/d" ∷ [])
two_cut =
    let last = piece_byte 32 _ refl refl (piece_byte 99 _ refl refl (piece_byte 47 _ refl refl (piece_byte 100 [] refl refl piece_end))) in
    comma (codes "a/b") (codes " c/d") [] _ first_piece (line_end (codes " c/d") [] [] ([], last) no_line)

two_read : (old : List ℕ) → FoldsTo AddsEntry (old, []) (codes "a/b" ∷ codes "c/d" ∷ [])
    (with_entry (with_entry (old, []) (codes "a/b") (Ok first)) (codes "c/d") (Ok second))
two_read old = (_, an_entry _ 97 _ first first_read, (_, an_entry _ 99 _ second second_read, refl))

-- The first request chooses an offer. It isn't known which of the two the final response answers, and one waits at the end.
whole : (is : IsReport (first ∷ []) false exchange_findings exchange_report Verdict.Acceptable) × (is.last.waiting ≡ 1)
unfolding digits has_plain_weight
whole = (
  record {
    some = lit< tt;
    last = _;
    adds = (
      _,
      (
        _,
        (
          _,
          _,
          _,
          (_, _, refl, refl, refl, refl),
          (λ none. absurd (omega (arith, none)), λ _. (_, (_, two_cut, two_read _), refl)),
          (_, (_, one_offer _ _, refl), refl),
        ),
        (
          _,
          (_, _, _, (_, _, refl, refl, refl, refl), (λ _. refl, λ some. absurd (omega (arith, some))), refl),
          (
            _,
            refl,
            (
              _,
              (_, _, _, (_, _, refl, refl, refl, refl), (λ _. refl, λ some. absurd (omega (arith, some))), (_, refl, refl)),
              (
                _,
                (
                  _,
                  _,
                  _,
                  (_, _, refl, refl, refl, refl),
                  (λ none. absurd (omega (arith, none)), λ _. (_, one_read _, refl)),
                  (_, refl, refl),
                ),
                refl,
              ),
            ),
          ),
        ),
      ),
      (λ _. refl, λ unknown. absurd (true≢false unknown)),
    );
    is_text = refl;
    is_verdict = refl;
  },
  refl,
)

-- Bytes without escapes have the report on their lines' findings.
of_lines : (offers : List MediaType) (bytes text : List ℕ) (verdict : Verdict) (lines : List (List ℕ)) (findings : List Finding)
    → without_escapes bytes ≡ bytes → is_cut bytes ≡ false → plain_lines false bytes ≡ lines → findings_in false lines ≡ findings
    → IsReport offers false findings text verdict → IsReportOf offers bytes text verdict
of_lines offers bytes text verdict lines findings plain cut are is report = rw cut (rw plain (rw are (rw is report)))

whole_of_bytes : IsReportOf (first ∷ []) exchange exchange_report Verdict.Acceptable
whole_of_bytes = of_lines _ exchange _ _ exchange_lines exchange_findings (no_escape exchange refl) refl lines_are findings_are whole.0

unbound : BoundaryIs first None
unbound bytes is = absurd (cc is.multipart)

-- A final response weighs its own media type by the ranges of the request that it answers, and that of the request by its own. Its ranges
-- weigh no offers.
answered : AddsHead (first ∷ []) false (record start { waiting = 1; asked = Some (first ∷ []); sent = Some second })
    (record { kind = Kind.Final; texts = codes "HTTP/1.1 200 " ∷ codes "Content-Type: a/b" ∷ codes "Accept: a/b" ∷ [] })
    (record start {
      text = codes "Content-Type a/b\nessence a/b\nanswer 1.000 a/b by 1 a/b\nAccept 1.000 a/b\nrequest 0.000 c/d by none\n";
      are_good = false;
    })
unfolding digits has_plain_weight
answered = (
  _,
  _,
  _,
  (_, _, (_, (Ok first, first_read, (None, unbound, refl)), refl), refl, (_, one_offer _ _, refl), refl),
  (λ none. absurd (omega (arith, none)), λ _. (_, one_read _, refl)),
  (_, (_, one_offer _ _, refl), refl),
)

abbrev chosen : Progress
chosen = record start { text = codes "offer 1.000 a/b by 1 a/b\nbest a/b\n"; choice = Some true }

-- The response to a request is known if no other request waits.
waits : AddsRequest (first ∷ []) (Some (first ∷ [])) (Some second) start
    (record chosen { waiting = 1; asked = Some (first ∷ []); sent = Some second })
    × AddsRequest (first ∷ []) (Some (first ∷ [])) (Some second) (record start { waiting = 1 }) (record chosen { waiting = 2 })
unfolding digits
waits = ((_, (_, one_offer _ _, refl), refl), (_, (_, one_offer _ _, refl), refl))

-- Of two values, none is the only one.
several : AddsTypes false start (record {
  kind = Kind.Request;
  texts = codes "GET / HTTP/2" ∷ codes "Content-Type: a/b" ∷ codes "Content-Type: a/b" ∷ [];
}) None (record start {
  text = codes "Content-Type a/b\nessence a/b\nContent-Type a/b\nessence a/b\nseveral Content-Type lines (HTTP allows one)\n";
})
several =
    (_, _, (_, (Ok first, first_read, (None, unbound, refl)), (_, (Ok first, first_read, (None, unbound, refl)), refl)), refl, refl, refl)

any_read : HasReading (codes "*/*") (Ok (media_of (codes "*") (codes "*")))
unfolding is_token_byte lib.Utf8.encode
any_read = read (codes "*") (codes "*") (refl, refl, tt) (codes "*/*", (refl, refl)) refl

-- Without an `Accept` of a request, offers are weighed by `*/*`. Without offers, or after a choice, nothing is missing.
without : AddsMissing (first ∷ []) start (record start {
  text = codes "no Accept\nAccept 1.000 */*\noffer 1.000 a/b by 1 */*\nbest a/b\n";
  choice = Some true;
}) × AddsMissing [] start start × AddsMissing (first ∷ []) (record start { choice = Some false }) (record start { choice = Some false })
unfolding digits has_plain_weight
without = (
  (λ known. absurd (true≢false (sym known)), λ _. (_, an_entry _ 42 _ _ any_read, (_, one_offer _ _, refl))),
  (λ _. refl, λ unknown. absurd (true≢false unknown)),
  (λ _. refl, λ unknown. absurd (true≢false unknown)),
)

-- ---- rows

-- a media type with a suffix, the same with a parameter that has a quoted pair, and a range with a weight
abbrev plain : MediaType
plain = record { essence = codes "a/b+c"; slash = 1; plus = Some 3; pairs = []; kept = codes "a/b+c" }

abbrev media : MediaType
media = record plain { pairs = (codes "p", codes "x\\\"y") ∷ []; kept = codes "a/b+c;p=\"x\\\"y\"" }

abbrev star : List ℕ → MediaType
star q = record { essence = codes "*/*"; slash = 1; plus = None; pairs = (codes "q", q) ∷ []; kept = codes "*/*;q=" ++ q }

-- A media type has a row for each part. Bytes that aren't printable ASCII have dots. A caret is under the byte at fault, which is named, or
-- after the value.
rows_of_values : (media_rows media None ≡ codes "Content-Type a/b+c;p=\"x\\\"y\"\nessence a/b+c\nsuffix c\nparam p=x\"y\n")
    × (media_rows (star (codes "1")) (Some (codes "d")) ≡ codes "Content-Type */*;q=1\nessence */*\nparam q=1\nboundary d\n")
    × (shown (97 ∷ 32 ∷ 126 ∷ 0 ∷ 9 ∷ 27 ∷ 127 ∷ 195 ∷ []) ≡ codes "a ~.....") × (map byte_text (99 ∷ 32 ∷ 9 ∷ 234 ∷ 40 ∷ [])
    ≡ codes " c (63)" ∷ codes " space (20)" ∷ codes " tab (9)" ∷ codes " (EA)" ∷ codes " ( (28): HTTP has no comments" ∷ [])
    × (fault_rows (codes "bad Content-Type ") (codes "a\tb/") (Invalid MissingSubtype)
    ≡ codes "bad Content-Type mime parse error: a subtype was missing behind the slash (/)\n    a.b/\n        ^\n")
    × (fault_rows (codes "bad Accept ") (codes "a c") (NotUtf8 1)
    ≡ row (codes "bad Accept ") (field_error_text (NotUtf8 1)) ++ codes "    a c\n     ^ space (20)\n")
unfolding digits
rows_of_values = (refl, refl, refl, refl, refl, refl)

-- A value is as a tool prints it if it begins with a quote, or ends as tools show a carriage return or a line feed.
altered : (list_all is_altered (codes "'a/b" ∷ codes "a." ∷ codes "a$" ∷ codes "a^M" ∷ codes "a\\r" ∷ codes "a\\n" ∷ []) ≡ true)
    × (filter is_altered ([] ∷ codes "a/b" ∷ codes "a'" ∷ codes "$a" ∷ codes "a.b" ∷ codes "aM" ∷ codes "a^" ∷ codes "an" ∷ codes "r"
    ∷ []) ≡ [])
altered = (refl, refl)

-- A `Content-Type` is expected in a final response, unless its status is 204 or 304. Among many heads, each has its title.
rows_of_heads : (map (expects_type Kind.Final) (codes "HTTP/2 200" ∷ codes "HTTP/1.1 204 No" ∷ codes "HTTP/2 304"
    ∷ codes "HTTP/2 404 204" ∷ [])
    ≡ true ∷ false ∷ false ∷ true ∷ [])
    × (map (λ kind. expects_type kind (codes "HTTP/2 200")) (Kind.Fields ∷ Kind.Request ∷ Kind.Interim ∷ []) ≡ false ∷ false ∷ false ∷ [])
    × (map (count_row true) ([] ∷ ([] ∷ []) ∷ []) ≡ codes "no Content-Type\n" ∷ [] ∷ [])
    × (map (count_row false) ([] ∷ ([] ∷ [] ∷ []) ∷ []) ≡ [] ∷ codes "several Content-Type lines (HTTP allows one)\n" ∷ [])
    × (map (empty_row (codes "a")) (codes "a" ∷ codes "ab" ∷ []) ≡ codes "empty Accept\n" ∷ [] ∷ [])
    × (map (λ many. title_rows many (record { kind = Kind.Request; texts = codes "GET /\t" ∷ [] })) (true ∷ false ∷ [])
    ≡ codes "head GET /.\n" ∷ [] ∷ [])
    × (title_rows false (record {
      kind = Kind.Fields;
      texts = codes "Content-Type \t: a." ∷ codes "Accept: a" ∷ codes "Accept: a/b.\t"
          ∷ codes "[accept: a]" ∷ codes "* accept: a\t" ∷ [];
    }) ≡ codes "white space before the colon: Content-Type .: a.\n"
    ++ codes "perhaps not as sent: Accept: a/b..\nnot in a head: * accept: a.\n")
rows_of_heads = (refl, refl, refl, refl, refl, refl, refl)

-- A control character of each kind has one dot, also at the end of a text, and others and the line feed stay.
controls :
    (without_controls (97 ∷ 27 ∷ 10 ∷ 127 ∷ 194 ∷ 155 ∷ 51 ∷ 226 ∷ 128 ∷ 174 ∷ 226 ∷ 129 ∷ 166 ∷ 216 ∷ 156 ∷ 98 ∷ []) ≡ codes "a.\n..3...b")
    × (map (λ d. control_len (194 ∷ d ∷ [])) (127 ∷ 128 ∷ 159 ∷ 160 ∷ []) ≡ 0 ∷ 2 ∷ 2 ∷ 0 ∷ [])
    × (map (λ d. control_len (216 ∷ d ∷ [])) (155 ∷ 156 ∷ 157 ∷ []) ≡ 0 ∷ 2 ∷ 0 ∷ []) × (map (λ d. control_len (226 ∷ 128 ∷ d ∷ []))
    (141 ∷ 142 ∷ 143 ∷ 144 ∷ 169 ∷ 170 ∷ 174 ∷ 175 ∷ []) ≡ 0 ∷ 3 ∷ 3 ∷ 0 ∷ 0 ∷ 3 ∷ 3 ∷ 0 ∷ [])
    × (map (λ d. control_len (226 ∷ 129 ∷ d ∷ [])) (165 ∷ 166 ∷ 169 ∷ 170 ∷ []) ≡ 0 ∷ 3 ∷ 3 ∷ 0 ∷ []) × (control_len (226 ∷ 128 ∷ []) ≡ 0)
controls = (refl, refl, refl, refl, refl, refl)

-- a ranked offer
abbrev ranked : ℕ → ℕ → Option ℕ → RankedOffer
ranked offer weight range = record { offer = offer; weight = weight; range = range }

-- Weights have three decimals. A range has a remark if its `q` isn't a weight, or is in quotes. What is read of an entry is added. The rows
-- of offers have the order of their ranking, the range that decides, and each that would but for a parameter.
rows_of_offers : (map weight_text (1000 ∷ 50 ∷ 7 ∷ []) ≡ codes "1.000" ∷ codes "0.050" ∷ codes "0.007" ∷ [])
    × (flat_map (λ q. range_row (codes "*/*;q=" ++ q) (star q)) (codes "0.5" ∷ codes ".5" ∷ [])
    ≡ codes "Accept 0.500 */*;q=0.5\nAccept 0.500 */*;q=.5 (q isn't a weight in HTTP, counted as 0.500)\n")
    × (range_row (codes "*/* ; q=\"1\"") (star (codes "1")) ≡ codes "Accept 1.000 */*;q=1 (q isn't a weight in HTTP, counted as 1.000)\n")
    × (with_entry (codes "<", plain ∷ []) (codes "a") (Ok media) ≡ (codes "<" ++ range_row (codes "a") media, plain ∷ media ∷ []))
    × (with_entry (codes "<", plain ∷ []) (codes "a") (Err (NotUtf8 0))
    ≡ (codes "<" ++ fault_rows (codes "bad Accept ") (codes "a") (NotUtf8 0), plain ∷ []))
    × (offer_rows (codes "offer ") [] (plain ∷ star (codes "1") ∷ []) (ranked 1 0 None ∷ ranked 0 1 None ∷ ranked 2 1 None ∷ [])
    ≡ codes "offer 0.000 */*;q=1 by none\noffer 0.001 a/b+c by none\n") × (decider (plain ∷ []) (ranked 0 1 (Some 1)) ≡ None)
    × (offer_row (codes "offer ") (star (codes "1") ∷ media ∷ plain ∷ []) (ranked 0 1 (Some 0)) (Some plain)
    ≡ codes "offer 0.001 a/b+c by 1 */*;q=1 (lacks p=x\"y of 2 a/b+c;p=\"x\\\"y\")\n")
    × (lacks_text plain None (1, media) ≡ codes " (lacks p=x\"y of 2 a/b+c;p=\"x\\\"y\")")
    × (lacks_text plain (Some plain) (1, star (codes "1")) ≡ []) × (numbered (1, plain) ≡ codes "2 a/b+c")
unfolding digits has_plain_weight
rows_of_offers = (refl, refl, refl, refl, refl, refl, refl, refl, refl, refl, refl)

-- The best offer has a row, and one that isn't acceptable another. The verdict is that of all values and of the last choice.
verdicts : (best_row (plain ∷ media ∷ []) (ranked 1 1 (Some 0) ∷ []) ≡ (codes "best a/b+c;p=\"x\\\"y\"\n", true))
    × (best_row (media ∷ []) (ranked 0 0 None ∷ []) ≡ (codes "406 Not Acceptable\n", false)) × (best_row [] [] ≡ ([], true))
    × (map (λ (it : Bool × Option Bool). verdict_of (record start { are_good = it.0; choice = it.1 }))
    ((true, Some true) ∷ (true, None) ∷ (true, Some false) ∷ (false, Some true) ∷ [])
    ≡ Verdict.Acceptable ∷ Verdict.Acceptable ∷ Verdict.NotAcceptable ∷ Verdict.NotAcceptable ∷ [])
verdicts = (refl, refl, refl, refl)

-- Without a head there is no report. If an input is cut off, the report says so.
no_heads : ((text : List ℕ) (verdict : Verdict) → ¬ (IsReport [] false [] text verdict))
    × ((cut : Bool) (findings : List Finding) (text : List ℕ) (verdict : Verdict) → (is : IsReport [] cut findings text verdict)
    → text ≡ without_controls (is.last.text ++ (if cut then codes "not read after 1048576 bytes\n" else [])))
no_heads = (λ text verdict is. absurd (omega (arith, is.some)), λ cut findings text verdict is. is.is_text)

-- ---- offers and errors

-- Each word that is a media type names an offer, in its order. After it, a word is rejected by its fault.
words : (word : List ℕ) (offer : MediaType) → HasReading word (Ok offer)
    → ((other : List ℕ) (next : MediaType) → HasReading other (Ok next) → AreOffers (word ∷ other ∷ []) [] (Ok (offer ∷ next ∷ [])))
    × ((other : String Global) (error : FieldError) → HasReading (string_bytes other) (Err error)
    → AreOffers (word ∷ string_bytes other ∷ []) [] (Err (other, error)))
words word offer reads =
    (λ other next also. a_word reads (a_word also no_word), λ other error is. a_word reads (bad_word other error (λ _. is.1)))

-- A word that isn't a media type names no offer.
no_offer_of_a_fault : (word : List ℕ) (words : List (List ℕ)) (offers all : List MediaType) → ¬ (IsHttpMediaType word)
    → ¬ (AreOffers (word ∷ words) offers (Ok all))
no_offer_of_a_fault word words offers all isnt (a_word reads others) = isnt (_, reads.1)

-- If there is no word, none is rejected.
none_refused : (offers : List MediaType) (error : String Global × FieldError) → ¬ (AreOffers [] offers (Err error))
none_refused offers error is = elim is [ ]

-- An input without a head is named so, with the first line that has one of the two fields in plain sight.
errors : (head_error_text (NoHead None) ≡ codes "no head")
    × (head_error_text (NoHead (Some (10, Accept))) ≡ codes "no head, but line 10 has Accept")
    × (head_error_text (NoHead (Some (1, ContentType))) ≡ codes "no head, but line 1 has Content-Type")
unfolding digits
errors = (refl, refl, refl)
