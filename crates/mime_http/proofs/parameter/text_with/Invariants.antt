-- The parameters of other names so far were written.
use Rattle.mime_http.proofs.Common.{length, others, string_bytes, text_of_pairs, ◌++◌}
use Rattle.mime_http.proofs.Written.{Left}
use Rattle.mime_http.proofs.parameter.text_with.Given as goal

abbrev pub invariant-loop-other : goal.invariant-loop-other
invariant-loop-other l = Left l.name (l.mime.media.essence ++ text_of_pairs (others l.name l.mime.media.pairs)) (string_bytes l.text)
    (length (others l.name l.mime.media.pairs))
    l.count l.other-iterator
