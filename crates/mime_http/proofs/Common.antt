-- The names that most proofs of a header's value cite, passed on from one place. Declares nothing.
pub use Rattle.mime.proofs.HandedOut.{IsContent-closed, IsOpenContent-push, accepted-from_walk, closed-letter, content-awaits}
pub use Rattle.mime.proofs.HandedOut.{content-closed, content-taken, dead-from_stop, lowered_pair, regroup, rejected-from_fault}
pub use Rattle.mime.proofs.HandedOut.{stop-from_walk, takes_all-any, with_closed, IsOpenContent, awaits_after, continues, takes_all}
pub use Rattle.mime.proofs.HandedOut.{AreTokenBytes-from_token, IsContent-taken, IsToken-lowered, accepted_or_rejected, content-from_token}
pub use Rattle.mime.proofs.HandedOut.{are_quoted_text, in_ranges, length-lowered, list_all-lowered, list_all-wider, lowered-lowered}
pub use Rattle.mime.proofs.HandedOut.{lowered_value-either}
pub use Rattle.mime.proofs.HandedOut.{lowered_value-lowered, one_reading, pairs_of_tail-lowered, slice_get-prefix, stopped-from_walk}
pub use Rattle.mime.proofs.HandedOut.{kept_is_read, by_option, Begun, ClosedParameters, awaits_after-append, grow, BegunList, list_at}
pub use Rattle.mime.proofs.HandedOut.{not_viable-at_dead, one_fault, tree_of, viable-from_walk, walk, walk-accepted, walk_from}
unfoldable pub use Rattle.mime.specs.Bytes.{is_quoted_byte, is_token_byte}
pub use Rattle.mime.specs.Faults.{EndsIn, Explains, completion_of, last_byte_of, IsDeadAt}
pub use Rattle.mime.specs.Grammar.{AreParameters, AreSpaces, AreTokenBytes, IsContent, IsParameter, IsToken, Parameter, Parameters}
pub use Rattle.mime.specs.Grammar.{SyntaxTree, Tail, blank, final, is_space, listed, more, no_byte, no_list, plain, quoted, quoted_pair}
pub use Rattle.mime.specs.Grammar.{is_token, text_byte, text_of, text_of_list, text_of_parameter, text_of_tail}
pub use Rattle.mime.specs.Items.{IsFirstAccepted, Item, item_of, item_seen, items_of, name_seen, name_text}
pub use Rattle.mime.specs.Values.{IsAccepted, MediaType, OwnedMedia, Reads, essence_of, is_charset, kept_text, lowered, lowered_list}
pub use Rattle.mime.specs.Values.{lowered_parameter, lowered_tail, lowered_tree, lowered_value, pair_of, pairs_of_list, pairs_of_tail}
pub use Rattle.mime.specs.Values.{value_of}
pub use Rattle.mime.specs.declared.scan.fault.ParseError.TheVariants.{InvalidToken, MissingEqual, MissingQuote, MissingSlash}
pub use Rattle.mime.specs.declared.scan.fault.ParseError.TheVariants.{MissingSubtype, MissingValue, NoMemory}
pub use Rattle.mime.specs.Bytes.{backslash_byte, is_quoted_text_byte, quote_byte}
pub use Rattle.mime.specs.HeaderLaws.{AreHeaderBytes, IsSafe, IsSafePair}
pub use Rattle.mime.specs.Names.{NameIs}
pub use Rattle.mime.specs.declared.scan.fault.ParseError.{ParseError}
pub use Rattle.mime_http.specs.Forms.{form_of, is_plain, text_in}
pub use Rattle.mime_http.specs.HeaderLaws.{OneHttpFault, OneHttpReading, OnePrintedText, PlainIsHttp, PrintedIsRead}
pub use Rattle.mime_http.specs.HttpFaults.{HttpExplains, IsHttpFault, IsHttpViable, ValueNeedsMemory}
pub use Rattle.mime_http.specs.HttpList.{AreBetweenCommas, AreSorted, BeginsPiece, FirstBad, Header, IsFirstBad, IsHeader, IsInString}
pub use Rattle.mime_http.specs.HttpList.{IsPiece, IsPrinted, a_bad, a_range, after_blank, after_range, anew, bad_here, as_it_stands, comma}
pub use Rattle.mime_http.specs.HttpList.{line_end, lines_or_any, no_line, no_text, opens_string, piece_byte, piece_end, piece_string}
pub use Rattle.mime_http.specs.HttpList.{string_byte, string_end, string_pair, trim_end, trim_start, trimmed}
pub use Rattle.mime_http.specs.HttpMediaType.{AreHttpParameters, HttpReads, IsHttpMediaType, IsHttpParameter, no_more, semicolon}
pub use Rattle.mime_http.specs.HttpMediaType.{semicolon_and, with_string, with_token}
pub use Rattle.mime_http.specs.LineCut.{AreHeld, At, Held, Outside, Takes, nothing_held, pieces_of, with_bad, with_range, after, cut}
pub use Rattle.mime_http.specs.LineCut.{cut_after, before_mark, cut_from, ends_piece, is_mark, piece_len, Equals, Paired, IsNextOutside}
pub use Rattle.mime_http.specs.ListLaws.{AreElements, AreHttpLists, AreSame, BadIsAlone, HttpListsAreRead, OneCutOfLines, OneFirstBad}
pub use Rattle.mime_http.specs.ListLaws.{OneHeader, ReadAreHttpLists, element, nothing}
pub use Rattle.mime_http.specs.Ranges.{AreInOrder, Rank, best_offer, closeness, closest, demanded, first_value, given_weight, has}
pub use Rattle.mime_http.specs.Ranges.{is_demanded, merit, rank_cmp}
pub use Rattle.mime_http.specs.RangesLaws.{BestIsAcceptable, BestIsFirst, BestIsRankedFirst, NoneIsBest, OneOrderOfOffers, OneRanking}
pub use Rattle.mime_http.specs.RangesLaws.{QvaluesAre, ClosestIsClosest, CoversItself, IsAtMost, IsQvalue, MeanTheSame, MeaningCounts}
pub use Rattle.mime_http.specs.RangesLaws.{StrangerChangesNothing, WeightIsNumber, meaning_of, one_digit, one_dot, three_digits, two_digits}
pub use Rattle.mime_http.specs.RangesLaws.{zero_dot}
pub use Rattle.mime_http.specs.Reader.{Answer, RoomHolds, IsClosedAt, IsEssenceAt, IsParameterAt, IsStringFault, Parts, State}
pub use Rattle.mime_http.specs.Reader.{after_semicolon}
pub use Rattle.mime_http.specs.Reader.{answer_at, answer_at_end, answer_from, answer_of, before_semicolon, before_type, fault_at, in_name}
pub use Rattle.mime_http.specs.Reader.{in_string, in_subtype, in_type, in_value, media_of_parts, next, next_after, read, rejected}
pub use Rattle.mime_http.specs.Reader.{text_of_parts, parts_with}
pub use Rattle.mime_http.specs.Written.{WrittenIsMeant, escaped, others, quote_of, text_of_pair, text_of_pairs, with_pair, with_pairs}
pub use Rattle.mime_http.specs.Boundary.{IsBoundary, IsBoundaryOf, is_bchar}
pub use Rattle.mime_http.specs.Digits.{read_number, worth}
pub use Rattle.mime_http.specs.HttpPrinted.{field_error_text}
pub use Rattle.mime_http.specs.Unescaped.{unescaped}
pub use Rattle.mime_http.specs.Weight.{thousandths_of}
pub use Rattle.mime_http.specs.declared.quoted.Form.{Form}
pub use Rattle.mime_http.specs.declared.quoted.Form.TheVariants.{Token}
pub use Rattle.std.proofs.Common.{Bool, Bor, Err, List, None, Ok, Option, Some, [], ap, append-nil, append_assoc, ap₂, arith, cond, drop}
pub use Rattle.std.proofs.Common.{false, get_or, inl, inr, is_some, length, length-append, length-drop, map, refl, replicate, rules}
pub use Rattle.std.proofs.Common.{string_bytes, subst, suc, sym, take, true, w8, zero, ℕ, ⊎_elim, ◌%◌, ◌*◌, ◌++◌, ◌+◌, ◌-◌, ◌/◌, ◌<◌, ◌==◌}
pub use Rattle.std.proofs.Common.{◌^◌, ◌||◌, ◌∙◌, ◌∷◌, ◌≡◌, ◌≢◌, ◌≤◌, ◌⊎◌}
pub use Rattle.std.proofs.Math.ListN.{drop_of_length-le}
pub use Rattle.std.proofs.Math.Nat.{mul-le-mul_left}
pub use Rattle.std.proofs.Math.Numerals.{one-add}
pub use Rattle.std.proofs.Math.Seq.{drop-append-add, drop-append_seam, drop-cons, drop-length, take-add, take-append-add, take-append_seam}
pub use Rattle.std.proofs.Math.Seq.{take-length}
pub use Rattle.std.proofs.lemmas.Bool.{not-true, and_from, and_parts, cases_Bool, cases_lt, cond_both, eqb-true, false_from_ne_true, ne_eqb}
pub use Rattle.std.proofs.lemmas.Bool.{true≢false}
pub use Rattle.std.proofs.lemmas.Cmp.{back_total, nat_cmp_total, on_total, then_total}
pub use Rattle.std.proofs.lemmas.List.Elements.{All-from_recursion, recursion_from_All, All-contains, Contains-get_or, All-filter, All-map}
pub use Rattle.std.proofs.lemmas.List.Elements.{All-push, Contains-append_left, Contains-append_right}
pub use Rattle.std.proofs.lemmas.List.Folds.{concat-append, drop_split, list_all-append, list_all-map, list_any_at, find_at}
pub use Rattle.std.proofs.lemmas.List.Sums.{prefix_len-drop_yes, AllPass-from_list_all, list_all-from_AllPass, prefix_len-le-length}
pub use Rattle.std.proofs.lemmas.List.Sums.{prefix_len_stops, take_while-cons, position_or_len_is, fails_before_first, passes_at_first}
pub use Rattle.std.proofs.lemmas.List.{append_cancel_right, drop-drop, drop_more, get_or-drop, get_or-map, get_or_default, get_or_past}
pub use Rattle.std.proofs.lemmas.List.{length-map, length-take-le, map-append, nil_from_length, take_all, take_more, take_rest}
pub use Rattle.std.proofs.lemmas.List.{append_cancel_left, take-append-drop}
pub use Rattle.std.proofs.lemmas.Option.{MatchOption-at_some, get_or_from_slice_get, same_Some, slice_get-get_or, slice_get_within}
pub use Rattle.std.proofs.lemmas.Option.{none-some}
pub use Rattle.std.proofs.lemmas.Simd.{length-chunk, mask_l-mod, none_from_empty_mask, tops_compared, zip2_splat_left}
pub use Rattle.std.proofs.lemmas.Str.{IsAscii-drop, IsAscii-take, IsCharBoundary-after_ascii, IsCharBoundary-before_ascii, IsUtf8-append}
pub use Rattle.std.proofs.lemmas.Str.{IsUtf8-drop, IsUtf8-from_ascii, IsUtf8-nil, IsUtf8-take}
pub use Rattle.std.proofs.lemmas.Result.{IfErr-weaker, MatchResult-weaker, IfOk-weaker, on_ok_weaker}
pub use Rattle.std.proofs.lemmas.Bool.Decides.{nat_tests}
pub use Rattle.std.proofs.lemmas.Grind.{common_steps, flat_map-append}
pub use Rattle.std.proofs.lemmas.Iterator.Adapters.{position_from-zero}
pub use Rattle.std.proofs.lemmas.List.FromFn.{get_or-map-range_with_len}
pub use Rattle.std.proofs.lemmas.Slice.Eq.{HasBytesAt, bytes_eq-Decides, text_from_reads}
pub use Rattle.std.proofs.lemmas.Str.Ascii.{IsAscii-cons, IsAscii-nil}
pub use Rattle.std.proofs.lemmas.Str.Pattern.{contains_char, find_char}
pub use Rattle.std.specs.List.{AllByRecursion, AllPairs, FoldsTo, concat, cons_option, enumerate_from, list_all, list_any, position_from}
pub use Rattle.std.specs.List.{prefix_len, range_with_len, All, position_or_len}
unfoldable pub use Rattle.std.specs.List.{IsDistinct}
pub use Rattle.std.specs.Option.{option_cmp, option_eq, option_map, option_or}
pub use Rattle.std.specs.Ordering.{flip_args, is_gt, is_le, is_lt, nat_cmp, on, ord_max, ordering_then, then_cmp}
pub use Rattle.std.specs.Prelude.{IsOk, Contains, IfErr, IfOk, IfSome, IsUtf8, MatchOption, OnOk, Result, bit_and, bytes_eq, codes}
pub use Rattle.std.specs.Prelude.{filter_map, find, flat_map, fold, if◌then◌else◌, min, nat_lt, not, position, slice_get, slice_index}
pub use Rattle.std.specs.Prelude.{slice_range, take_while, unwrap_or, ⊤, ◌&&◌, ◌↔◌, Decides, filter}
pub use Rattle.std.specs.Char.{is_ascii_uppercase, is_ascii_digit, to_ascii_lowercase}
pub use Rattle.std.specs.Simd.Lanes.{zip2}
pub use Rattle.std.specs.Cmp.{IsTotalOrder}
pub use Rattle.std.specs.Cmp.Lexicographic.{same_text}
pub use Rattle.std.specs.Str.{IsAscii}
pub use Rattle.std.specs.Vec.{vec_items}
pub use Rattle.std.specs.declared.cmp.Ordering.{Ordering}
pub use Rattle.std.specs.declared.cmp.Ordering.TheVariants.{Equal}
pub use Rattle.std.specs.declared.cmp.Reverse.{Reverse}
pub use lib.Lanes.{chunk, mask_l, top}
pub use Rattle.mime_search.specs.Classes.{is_stop}
