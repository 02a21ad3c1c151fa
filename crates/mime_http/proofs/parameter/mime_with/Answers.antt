-- What is written is known to be read as the media type with the parameter.
use Rattle.std.proofs.Common.{rules}
use Rattle.std.proofs.lemmas.Grind.{common_steps}
use Rattle.mime_http.proofs.Common.{AreHeaderBytes, IfOk-weaker, IsSafe, IsToken, List, MediaType, Reads, [], ap, ap₂, arith, escaped}
use Rattle.mime_http.proofs.Common.{length, length-append, lowered, lowered-lowered, lowered_value, others, string_bytes, subst, sym}
use Rattle.mime_http.proofs.Common.{text_of_pairs, with_pair, ℕ, ◌++◌, ◌+◌, ◌∙◌, ◌∷◌, ◌≡◌}
use Rattle.mime_http.proofs.{Contents.content_of_escaped, Written.pairs_within_text, Written.with_pair_is_read}
use Rattle.mime_http.proofs.parameter.mime_with.Goals as goal

-- What is written is read as the media type with the parameter.
is_read : {media : MediaType} {text kept : List ℕ} (name value : List ℕ)
    → text ≡ media.essence ++ text_of_pairs (others name media.pairs ++ ((name, escaped value) ∷ [])) → Reads kept media
    → ((kept : List ℕ) (media : MediaType) → Reads kept media → IsSafe media) → IsToken name → AreHeaderBytes value
    → Reads text (with_pair media (lowered name) (lowered_value name (escaped value)))
is_read {media} name value made reads safe named header = search (with_pair_is_read, content_of_escaped, rules)

pub overflow_add-count : goal.overflow_add-count
overflow_add-count c = grind (arith, common_steps, others, escaped, length-append, length, pairs_within_text)

pub invariant_of-known : goal.invariant_of-known
invariant_of-known c =
    let media = c.args.mime.now.media in
    let name = c.args.name.now in
    let content = lowered_value name (escaped c.args.value.now) in
    let made = with_pair media (lowered name) content in
    let read = is_read c.args.name.now c.args.value.now c.in_ok-text.ensures.text c.as_str-kept.ensures.reads c.kept_is_safe.ensures
    c.requires.named c.requires.safe in
    let as_written = c.requires.kept c.if-is_kept.true in
    record {
      pairs = made.pairs;
      counted = rw (lowered-lowered name) (length-append (others name media.pairs) ((lowered name, content) ∷ [])
          ∙ ap (λ n. n + 1) (sym c.in_ok-text.ensures.count));
      some = λ none. absurd (omega (arith, none));
      reads = subst (λ text. Reads (string_bytes c.in_ok-text.text) (record media { pairs = made.pairs; kept = text }))
          (ap₂ (λ n content. media.essence ++ text_of_pairs (others n media.pairs ++ ((n, content) ∷ []))) as_written.0 as_written.1
          ∙ sym c.in_ok-text.ensures.text) read;
    }

pub returns : goal.returns
returns c =
    let read = is_read c.args.name.now c.args.value.now c.in_ok-text.ensures.text c.as_str-kept.ensures.reads c.kept_is_safe.ensures
    c.requires.named c.requires.safe in
    IfOk-weaker _ _ _ (λ made reads. c.one_reading.ensures _ _ _ reads (rw c.deref.ensures read)) c.read_accepted.ensures

pub returns-then-is_kept : goal.returns-then-is_kept
returns-then-is_kept c =
    let read = is_read c.args.name.now c.args.value.now c.in_ok-text.ensures.text c.as_str-kept.ensures.reads c.kept_is_safe.ensures
    c.requires.named c.requires.safe in
    IfOk-weaker _ _ _ (λ made reads. c.one_reading.ensures _ _ _ reads read) c.into_mime.ensures.read
