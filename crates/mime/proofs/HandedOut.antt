-- What the proofs of a crate over this one may cite, passed on from one place: what isn't here may change. Declares nothing.

-- Bytes: a list of a class is one of a wider class, the first byte after a prefix, a cut after an ASCII byte, and those past ASCII.
pub use Rattle.mime.proofs.BytesLemmas.{list_all-wider, slice_get-prefix, boundary_after, AreTokenBytes-from_token, token-size, is_other}
pub use Rattle.mime.proofs.BytesLemmas.{are_other-token}
pub use Rattle.mime.proofs.ValueLemmas.Utf8.{high_bytes, length-in_part}
pub use Rattle.mime.proofs.StopsLemmas.{are_quoted_text, in_ranges}
-- What calls wrote, one after the other, is appended.
pub use Rattle.mime.proofs.WriteLemmas.{appended, calls_then}
-- Lowercase: it is idempotent, and keeps the length, a class that case doesn't matter to, and what a parameter's value is read as.
pub use Rattle.mime.proofs.LowercaseLemmas.{lowered-lowered, list_all-lowered, IsToken-lowered, lowered_value-either, lowered_value-lowered}
pub use Rattle.mime.proofs.LowercaseLemmas.{pairs_of_tail-lowered}
pub use Rattle.mime_search.proofs.IgnoringCase.{length-lowered}
-- The walk over a text that may still become a media type: its steps, which begun tree it leads to, how quoted content goes on
-- there, and how joined lists are grouped.
pub use Rattle.mime.proofs.GrammarLemmas.Begun.{Closed as ClosedParameters, Begun, in_type, in_subtype, in_list, ListState, in_spaces}
pub use Rattle.mime.proofs.GrammarLemmas.Begun.{in_name, in_value, in_quotes, after_quotes, grow_state, grow_list, list_at, grow, walk}
pub use Rattle.mime.proofs.GrammarLemmas.Begun.{walk_from, tree_of, BegunList, walk_by-append, walk_by-append_some, with_closed}
pub use Rattle.mime.proofs.GrammarLemmas.Spelling.{by_class, spelled-from_walk, IsBegun, IsState, regroup, walk_from-lengthens}
pub use Rattle.mime.proofs.GrammarLemmas.Content.{IsContent-closed, IsContent-taken, IsOpenContent-push, awaits_after-append, closed-letter}
pub use Rattle.mime.proofs.GrammarLemmas.Content.{content-awaits, content-closed, content-taken, takes_all-any}
-- Readings: there is one at most; a text is accepted exactly if it is walked to a tree that may end, and else rejected.
pub use Rattle.mime.proofs.GrammarLemmas.Readings.{accepted-from_walk, one_reading, walk-accepted, rejected-from_walk, stopped-from_walk}
pub use Rattle.mime.proofs.GrammarLemmas.Viability.{accepted-from_complete, accepted_is_viable, by_option, whole_prefix-from_walk}
pub use Rattle.mime.proofs.CutLemmas.Cuts.{accepted_or_rejected, empty-cut, cut_unique, has_cut, split-size}
-- Faults: a text is viable exactly if it can be walked, so are its prefixes, and a rejected one has one fault.
pub use Rattle.mime.proofs.GrammarLemmas.Viability.{dead-from_stop, stop-from_walk, viable-from_walk, walk-from_viable, viable-from_lacks}
pub use Rattle.mime.proofs.GrammarLemmas.Viability.{dead-from_walk, not_viable-at_dead, prefix_of_viable_is_viable}
pub use Rattle.mime.proofs.GrammarLemmas.Faults.{completed_is_rejected, one_fault}
pub use Rattle.mime.proofs.ValueLemmas.Reading.{rejected-from_fault, Explains-from_fault}
-- The essence of a value that was read is read as the value without its parameters; a token is quoted content.
pub use Rattle.mime.proofs.LawLemmas.Written.{essence_is_read, content-from_token, kept_is_safe, walked-safe}
-- What is printed of a value that was read is read as the value.
pub use Rattle.mime.proofs.ValueLemmas.KeptText.{kept_is_read, text_of-essence, length-essence_of, value_of_low, value_of-lowering}
pub use Rattle.mime.proofs.ValueLemmas.KeptText.{keeps-tree, kept-in_part}
-- A comma ends whatever precedes it, and leaves what follows it as it is.
pub use Rattle.mime.proofs.CutLemmas.Containment.{cut_has_items}
-- The order of values, with the laws of `Before` and `Same`, and two iterators that std's `eq` compares.
pub use Rattle.mime.proofs.ValueLemmas.Traits.{eq_by_cmp-tells, eq_by_cmp-same}
-- The kept text of a value, with the positions of its parts.
pub use Rattle.mime.specs.Inner.KeptText.{kept_text_of, lowered_pair}
-- Quoted content, byte by byte: which byte may come next, and where the content ends.
pub use Rattle.mime.specs.Inner.Quoted.{IsOpenContent, awaits_after, awaits_next, continues, takes, takes_all}
-- What the reader has left, what a pass over it leaves, and what the scanner finds.
pub use Rattle.mime.specs.Inner.Scanning.{positions_of}
