-- The names that the proofs of this crate cite, passed on from one place. Declares nothing.
pub use Rattle.mime.specs.{Values.MediaType, Values.suffix_of}
pub use Rattle.mime_headers.specs.Field.{continued, field_of, first_seen}
pub use Rattle.mime_headers.specs.Head.{Finding, findings_after, findings_in, findings_of}
pub use Rattle.mime_headers.specs.Start.{from_version}
pub use Rattle.mime_headers.specs.Field.{is_field}
pub use Rattle.mime_headers.specs.Head.{heads_of, is_end, mark_of_fields}
pub use Rattle.mime_headers.specs.Line.{mark_before}
pub use Rattle.mime_headers.specs.Start.{has_authority, is_start, kind_within}
pub use Rattle.mime_headers.specs.Field.{seen, seen_from, values_of}
pub use Rattle.mime_headers.specs.Head.{needs_sign_after, own_lines, strays_of}
pub use Rattle.mime_headers.specs.Line.{plain_after, signed, text_with}
pub use Rattle.mime_headers.specs.Line.{without_escapes, without_returns}
pub use Rattle.mime_headers.specs.Report.{AddsFinding, AddsLines, AddsType, BoundaryIs, is_final, lacks_text, offer_rows, remark_of, shown}
pub use Rattle.mime_headers.specs.Report.{start}
pub use Rattle.mime_headers.specs.Inner.{finding_now, findings_now, lines_now, medias, state_now}
pub use Rattle.mime_headers.specs.{Program.AreOffers, Program.a_word, Program.bad_word, Program.no_word, Shown.shown_after}
pub use Rattle.mime_headers.specs.{Shown.without_controls}
pub use Rattle.mime_http.specs.HttpList.{AreBetweenCommas.comma, AreBetweenCommas.line_end, AreBetweenCommas.no_line, trim_start}
pub use Rattle.mime_http.specs.{Unescaped.unescaped, declared.value.FieldError.FieldError}
pub use Rattle.mime_io.specs.{Lines.lines_of, Lines.row}
pub use Rattle.std.proofs.Common.{Bool, Err, List, None, Ok, Option, Result, Some, String, [], ap, append-nil, append_assoc, arith, codes}
pub use Rattle.std.proofs.Common.{drop, drop_of_length-le, false, flat_map, if◌then◌else◌, is_none, is_some, length, map, option_map, refl}
pub use Rattle.std.proofs.Common.{replicate, rules, slice_get, string_bytes, subst, sym, take, true, vec_items, vec_len, nat_lt, ℕ, ◌++◌}
pub use Rattle.std.proofs.Common.{◌+◌, ◌-◌, ◌<◌, ◌==◌, ◌||◌, ◌&&◌, ◌∙◌, ◌∷◌, ◌≡◌, ◌≤◌}
pub use Rattle.std.proofs.lemmas.Fn.{FoldsTo-push}
pub use Rattle.std.proofs.lemmas.List.{length-map, map-append, map_more, take_all}
pub use Rattle.std.proofs.lemmas.List.Folds.{flat_map-map}
pub use Rattle.std.specs.Char.{is_ascii_digit}
pub use Rattle.std.specs.Global.{Global}
pub use Rattle.std.specs.List.{FoldsTo, enumerate_from, filter_map, list_any, position_or_len}
pub use Rattle.std.specs.{List.prefix_len, List.suffix_len, Option.option_or, Vec.Iter.into_iter_items, Vec.Iter.into_iter_len}
pub use borrow.Author.Tests.{tests}
