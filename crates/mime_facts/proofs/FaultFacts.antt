-- Texts for which each definition of a fault is true, and others for which it is false.
use Rattle.std.proofs.Common.{◌≡◌, ℕ, List, [], ◌∷◌, ◌++◌, length, get_or, Some, None, refl, sym, ap, ◌∙◌, arith, length-append, codes}
use Rattle.std.proofs.{Math.Seq.get_or-append_seam, lemmas.Option.same_Some}
use Rattle.mime.specs.{Bytes.is_token_byte, Values.MediaType, Values.Reads, Faults.IsViable, Faults.IsLongestPrefix, Faults.completion_of}
use Rattle.mime.specs.{Faults.last_byte_of, Faults.EndsIn, Faults.Lacks, Faults.IsUnclosed, Faults.IsDeadAt, Faults.IsFault}
use Rattle.mime.specs.{Faults.Explains, declared.scan.fault.ParseError.TheVariants.MissingSlash}
use Rattle.mime.specs.{declared.scan.fault.ParseError.TheVariants.MissingSubtype, declared.scan.fault.ParseError.TheVariants.MissingEqual}
use Rattle.mime.specs.{declared.scan.fault.ParseError.TheVariants.MissingValue, declared.scan.fault.ParseError.TheVariants.MissingQuote}
use Rattle.mime.specs.{declared.scan.fault.ParseError.TheVariants.InvalidToken, declared.scan.fault.ParseError.TheVariants.NoMemory}
use Rattle.mime.proofs.{GrammarLemmas.Faults.lacks_unique, GrammarLemmas.Readings.one_reading, GrammarLemmas.Readings.stopped-from_walk}
use Rattle.mime.proofs.{GrammarLemmas.Viability.accepted_is_viable, GrammarLemmas.Viability.not_viable-at_dead}
use Rattle.mime.proofs.{GrammarLemmas.Viability.prefix_unique, GrammarLemmas.Viability.viable-from_lacks}
use Rattle.mime.proofs.{GrammarLemmas.Viability.lacks-from_walk}
use Rattle.mime_facts.proofs.{StandardFacts.no_slash, StandardFacts.no_subtype, StandardFacts.no_equals, StandardFacts.no_value}
use Rattle.mime_facts.proofs.{StandardFacts.no_quote, StandardFacts.space_in_type, ValueFacts.plain_value, ValueFacts.reads_capitals}
use Rattle.mime_facts.proofs.{ValueFacts.text_of_41, ValueFacts.text_of_40, ValueFacts.value_of_40, ValueFacts.reads_41}
use Rattle.mime_facts.proofs.{ValueFacts.reads_40, ValueFacts.reads_dropped}

-- What lacks something is viable, and what has a byte at fault isn't.
viable_texts : IsViable (codes "A/B") × IsViable (codes "a/b;p") × ¬ (IsViable (codes "a b"))
viable_texts = (
  accepted_is_viable _ (plain_value, reads_capitals),
  viable-from_lacks (codes "a/b;p") MissingEqual no_equals,
  not_viable-at_dead _ 1 32 space_in_type,
)

-- The longest viable prefix of `a b` has one byte, and no other number of them.
prefix_of_type : IsLongestPrefix (codes "a b") 1 × ¬ (IsLongestPrefix (codes "a b") 0) × ¬ (IsLongestPrefix (codes "a b") 2)
prefix_of_type = (
  space_in_type.prefix,
  (λ is. is.longest 1 (omega arith) (omega arith) space_in_type.prefix.viable),
  λ is. space_in_type.prefix.longest 2 (omega arith) (omega arith) is.viable,
)

-- What completes a text, and what it must end in.
completions : (completion_of MissingSlash ≡ Some (codes "x/x")) × (completion_of MissingSubtype ≡ Some (codes "x"))
    × (completion_of MissingEqual ≡ Some (codes "=x")) × (completion_of MissingValue ≡ Some (codes "x"))
    × (completion_of MissingQuote ≡ Some (codes "x\"")) × (completion_of (InvalidToken 1 32) ≡ None)
    × (completion_of NoMemory ≡ None) × (last_byte_of MissingSubtype ≡ Some 47) × (last_byte_of MissingValue ≡ Some 61)
    × (last_byte_of MissingEqual ≡ None)
completions = (refl, refl, refl, refl, refl, refl, refl, refl, refl, refl)

-- The last byte of a text of two.
ends_in_slash : EndsIn (codes "a/") 47
ends_in_slash = (codes "a", refl)

-- A text doesn't end in its first byte.
ends_in_no_letter : ¬ (EndsIn (codes "a/") 97)
ends_in_no_letter (prefix, is) =
    let size : length prefix ≡ 1 = omega (arith, ap length is, length-append prefix (97 ∷ [])) in
    let at : get_or (codes "a/") (length prefix) 0 ≡ 97 =
    ap (λ t. get_or t (length prefix) 0) is ∙ get_or-append_seam prefix 97 [] 0 in
    absurd (omega (arith, sym (ap (λ n. get_or (codes "a/") n 0) size) ∙ at))

-- A lone type lacks its slash.
pub e_lacks_slash : Lacks (codes "e") MissingSlash
unfolding is_token_byte
e_lacks_slash = lacks-from_walk (codes "e") _ refl refl

-- A lone type has no open quotes.
pub e_is_closed : ¬ (IsUnclosed (codes "e"))
e_is_closed is = absurd (cc (lacks_unique (codes "e") MissingSlash MissingQuote e_lacks_slash is))

-- What lacks a subtype ends in its slash, and what lacks a value ends in its equals sign; an accepted text lacks nothing.
what_is_lacking :
    Lacks (codes "text/") MissingSubtype × ¬ (Lacks (codes "text/") MissingValue) × ¬ (Lacks (codes "a/b;p=") MissingSubtype)
    × ¬ (Lacks (codes "A/B") MissingSlash)
unfolding is_token_byte
what_is_lacking = (
  no_subtype,
  (λ is. absurd (cc (lacks_unique (codes "text/") MissingSubtype MissingValue no_subtype is))),
  (λ is. absurd (cc (lacks_unique (codes "a/b;p=") MissingValue MissingSubtype no_value is))),
  λ is. stopped-from_walk (codes "A/Bx/x") refl is.0,
)

-- A quote that a backslash pairs closes no value.
unclosed : IsUnclosed (codes "a/b;p=\"\\\"") × ¬ (IsUnclosed (codes "a/b;p"))
unclosed = (no_quote, λ is. absurd (cc (lacks_unique (codes "a/b;p") MissingEqual MissingQuote no_equals is)))

-- The byte at fault and its position.
dead : IsDeadAt (codes "a b") 1 32 × ¬ (IsDeadAt (codes "a b") 1 33) × ¬ (IsDeadAt (codes "a b") 2 98)
dead = (
  space_in_type,
  (λ is. absurd (omega (arith, same_Some 32 33 is.there))),
  λ is. absurd (omega (arith, prefix_unique _ 2 1 is.prefix space_in_type.prefix)),
)

-- Each rejected text has only its fault, and none of them is `NoMemory`.
faults : IsFault (codes "invalid") MissingSlash × ¬ (IsFault (codes "a b") MissingSlash) × ¬ (IsFault (codes "A/B") NoMemory)
faults =
    (no_slash, (λ is. not_viable-at_dead (codes "a b") 1 32 space_in_type (viable-from_lacks (codes "a b") MissingSlash is)), λ is. is.0)

-- If 40 bytes of a text are kept, memory doesn't run out for it.
forty_have_memory : (text : List ℕ) → Reads text value_of_40 → ¬ (Explains text NoMemory)
forty_have_memory text forty (value, reads, long) =
    absurd (omega (arith, long, ap (λ (it : MediaType). length it.kept) (one_reading text value_of_40 value forty reads)))

-- Memory may run out only for an accepted text, and not for one of which 40 bytes are kept, as of one with a semicolon after them.
memory : Explains text_of_41 NoMemory × ¬ (Explains text_of_40 NoMemory) × ¬ (Explains (text_of_40 ++ codes ";") NoMemory)
    × ¬ (Explains (text_of_41 ++ codes "/") NoMemory)
unfolding is_token_byte
memory = (
  (_, reads_41, omega arith),
  forty_have_memory text_of_40 reads_40,
  forty_have_memory (text_of_40 ++ codes ";") reads_dropped,
  λ is. stopped-from_walk (text_of_41 ++ codes "/") refl (is.0, is.1),
)
