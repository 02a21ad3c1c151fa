-- What the file HeaderAnswers says of some texts.
use Rattle.std.proofs.Common.{◌≡◌, ℕ, true, false, List, [], ◌∷◌, ◌++◌, refl, arith, codes, None, rules}
use Rattle.mime.specs.Values.{MediaType}
use Rattle.mime_http.specs.HttpList.{line_end, no_line, blank, no_text, piece_end}
use Rattle.mime_http.specs.Weight.{four_digits}
use Rattle.mime_c.specs.{Strings.strings, Answers.nothing_found, Answers.has_no_room}
use Rattle.mime_c.specs.{HeaderAnswers.HeaderReadsTo}
use Rattle.mime_c.specs.{HeaderAnswers.range_texts, HeaderAnswers.AcceptsTo, HeaderAnswers.header_lines, HeaderAnswers.HaveNoEntry}
use Rattle.mime_c.specs.{HeaderAnswers.are_offers, HeaderAnswers.BestIs, HeaderAnswers.none_is_best, HeaderAnswers.OrderIs}
use Rattle.mime_c.specs.{HeaderAnswers.none_is_ordered, declared.MimeFound.MimeFound, declared.TheConstants.MIME_OK}
use Rattle.mime_c.specs.{declared.TheConstants.MIME_NO_ROOM, declared.TheConstants.MIME_NOT_ACCEPTABLE}
use Rattle.mime_c.proofs.{HeaderOutcome.best_is_one, OrderOutcome.order_is_one}

-- Weights are written in four digits.
weights_written : (four_digits 1000 ≡ codes "1000") × (four_digits 305 ≡ codes "0305") × (four_digits 0 ≡ codes "0000")
weights_written = (refl, refl, refl)

-- The range `a/b;q=.5`.
half : MediaType
half = record { essence = codes "a/b"; slash = 1; plus = None; pairs = (codes "q", codes ".5") ∷ []; kept = codes "a/b;q=.5" }

-- Its strings have its weight, its essence, its parameter and an empty string.
half_written : strings (range_texts half) ≡ codes "0500" ++ 0 ∷ codes "a/b" ++ 0 ∷ codes "q" ++ 0 ∷ codes ".5" ++ 0 ∷ 0 ∷ []
unfolding half
half_written = refl

-- The strings of a range without a parameter have its weight, its essence and an empty string.
whole_written : strings (range_texts (record half { pairs = [] })) ≡ codes "1000" ++ 0 ∷ codes "a/b" ++ 0 ∷ 0 ∷ []
unfolding half
whole_written = refl

-- An empty header is one line, and a missing header is none.
lines_are : (header_lines true [] ≡ [] ∷ []) × (header_lines false (codes "a/b") ≡ [])
lines_are = (refl, refl)

-- Ten bytes aren't enough for a value of three.
no_room_for_value : HeaderReadsTo (codes "A/B") (codes "----------") MIME_NO_ROOM (codes "----------", nothing_found)
no_room_for_value = has_no_room (omega arith)

-- Eleven bytes aren't enough for the ranges of three bytes.
no_room_for_ranges : AcceptsTo (codes "A/B") (codes "-----------") MIME_NO_ROOM (codes "-----------", 0, 0)
no_room_for_ranges = has_no_room (omega arith)

-- A value isn't read into ten bytes.
value_not_read : (held : List ℕ × MimeFound) → ¬ (HeaderReadsTo (codes "A/B") (codes "----------") MIME_OK held)
value_not_read held is = search rules

-- Ranges aren't listed in eleven bytes.
not_listed : (held : List ℕ × ℕ × ℕ) → ¬ (AcceptsTo (codes "A/B") (codes "-----------") MIME_OK held)
not_listed held is = search rules

-- An empty line has no entry.
empty : HaveNoEntry ([] ∷ [])
empty = record { pieces = [] ∷ []; cut = line_end [] [] [] ([], piece_end) no_line; sorted = blank [] [] [] [] refl no_text }

-- Of no offers none is acceptable.
none_acceptable : BestIs true [] [] MIME_NOT_ACCEPTABLE 0
none_acceptable = are_offers _ _ _ _ empty empty refl (none_is_best refl)

-- Of no offers none is the best.
none_best : (at : ℕ) → ¬ (BestIs true [] [] MIME_OK at)
none_best at is =
    let only = (best_is_one true [] []).4 in
    let none = only MIME_NOT_ACCEPTABLE 0 (λ no. omega (arith, no)) none_acceptable in
    absurd (omega (arith, (only MIME_OK at (λ no. omega (arith, no)) is).0, none.0))

-- Of no offers none is written in order.
none_ordered : OrderIs true [] [] [] MIME_NOT_ACCEPTABLE ([], 0)
none_ordered = are_offers _ _ _ _ empty empty refl (none_is_ordered (record {
  best_first = λ i j d less within. absurd (omega (arith, within));
  all = λ at. (λ is. absurd (omega (arith, is.1)), λ weighs. absurd (omega (arith, weighs)));
}))

-- No order of no offers is written.
none_in_order : (held : List ℕ × ℕ) → ¬ (OrderIs true [] [] [] MIME_OK held)
none_in_order held is =
    let only = (order_is_one true [] [] []).4 in
    let none = only MIME_NOT_ACCEPTABLE _ (λ no. omega (arith, no)) none_ordered in
    absurd (omega (arith, (only MIME_OK held (λ no. omega (arith, no)) is).0, none.0))
