-- What the proofs of a crate over this one may cite, passed on from one place: what isn't here may change. Declares nothing.
-- A value is a media type as HTTP writes it if it is so without the white space around it.
pub use Rattle.mime_http.proofs.Around.{reads_around, white_around}
-- The content of quoted strings: what is written for a value, and what needs no backslash.
pub use Rattle.mime_http.proofs.Contents.{content_of_escaped, unescaped_is}
-- Lines are cut in one way, and each line is.
pub use Rattle.mime_http.proofs.Cuts.{one_cut, only_cut}
-- A header's value that is a media type has no error, and any other has one.
pub use Rattle.mime_http.proofs.FieldErrors.{no_field_error, one_field_error}
-- The laws of a header's value: it is one media type, of which one text is printed, which is read as it, also what is written anew. What
-- the library reads is printed as it stands.
pub use Rattle.mime_http.proofs.HttpLaws.{one_printed_text, printed_is_read, same_anew, stands, written_reads}
-- A text is a media type or isn't, and so each line has one header, with one first bad entry if an entry is bad.
pub use Rattle.mime_http.proofs.Lists.{utf8_or_not, read_or_not, header_of, one_header, one_first_bad, http_is_not_blank}
-- Offers have one order and one ranking; what weighs something is an offer.
pub use Rattle.mime_http.proofs.Order.{weighs_within, one_order, one_ranking}
-- What the library reads is what HTTP writes there.
pub use Rattle.mime_http.proofs.PlainIsHttp.{plain_is_http}
-- What is read of a value is what HTTP writes: each state says what the bytes so far are.
pub use Rattle.mime_http.proofs.ReadBack.{answered_is_http}
-- The fault of a value that isn't read is the answer: where reading stops nothing helps, and at each byte before that something does.
pub use Rattle.mime_http.proofs.ReadFaults.{rejected_is_none, no_fault, one_http_fault}
-- What HTTP writes is read, byte by byte, as the media type that it is; what is read is safe in a header, and in UTF-8.
pub use Rattle.mime_http.proofs.ReadForth.{http_is_answered}
-- What is written of parameters is read as them.
pub use Rattle.mime_http.proofs.Written.{with_pair_is_read, length-lowered_value}
-- Private: a header's value read byte by byte by HTTP's own grammar (RFC 9110, 8.3.1 and 5.6.6), and what is written of a media type.
pub use Rattle.mime_http.specs.Reader.{Answer, read, rejected, answer_of, media_of_parts, text_of_parts}
