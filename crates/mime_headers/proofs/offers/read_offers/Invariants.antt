-- The answer to the words that are left is the answer to all.
use Rattle.mime_headers.proofs.Common.{AreOffers, FieldError, Global, List, MediaType, Result, String, [], drop, into_iter_items}
use Rattle.mime_headers.proofs.Common.{into_iter_len, map, string_bytes, take, vec_items}
use Rattle.mime_headers.proofs.offers.read_offers.Given as goal

abbrev pub invariant-loop-word : goal.invariant-loop-word
invariant-loop-word l =
    (all : Result (List MediaType) (String Global × FieldError))
    → AreOffers (map string_bytes (take (into_iter_len l.words) (into_iter_items l.words)))
    (map (λ offer. offer.media) (vec_items l.offers)) all
    → AreOffers (map string_bytes (drop 1 (take (into_iter_len l.fn.words) (into_iter_items l.fn.words)))) [] all

abbrev pub decreases-loop-word : goal.decreases-loop-word
decreases-loop-word l = into_iter_len l.words
