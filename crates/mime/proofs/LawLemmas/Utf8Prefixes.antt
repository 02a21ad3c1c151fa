-- The longest viable prefix of a text of valid UTF-8 can be completed to a text of valid UTF-8.
use Rattle.std.proofs.Common.{ℕ, List, [], ◌++◌, take, Some, None, refl, sym, subst, append-nil, ⊎_elim, codes}
use Rattle.std.proofs.lemmas.Str.{IsUtf8-append, IsUtf8-take}
use Rattle.std.specs.Prelude.{MatchOption}
use Rattle.std.specs.Str.{IsUtf8}
use Rattle.mime.specs.Values.{IsAccepted}
use Rattle.mime.specs.Faults.{IsViable, IsLongest, IsLongestPrefix, completion_of, Lacks}
use Rattle.mime.specs.Laws.{IsViableInUtf8, PrefixIsInUtf8}
use Rattle.mime.specs.declared.scan.fault.ParseError.{ParseError}
use Rattle.mime.specs.declared.scan.fault.ParseError.TheVariants.{MissingSlash, MissingSubtype, MissingEqual, MissingValue, MissingQuote}
use Rattle.mime.proofs.GrammarLemmas.Characters.{prefix_ends_between_characters}
use Rattle.mime.proofs.CutLemmas.Cuts.{accepted_or_rejected}
use Rattle.mime.proofs.GrammarLemmas.Faults.{one_completion, one_longest_prefix}
use Rattle.mime.proofs.GrammarLemmas.Viability.{prefix_unique}
use lib.Utf8.{encode}

-- What completes a text is ASCII.
completion-utf8 : (fault : ParseError) → MatchOption (completion_of fault) (Unit {0}) IsUtf8
unfolding encode
completion-utf8 MissingSlash = (codes "x/x", (refl, refl))
completion-utf8 MissingSubtype = (codes "x", (refl, refl))
completion-utf8 MissingEqual = (codes "=x", (refl, refl))
completion-utf8 MissingValue = (codes "x", (refl, refl))
completion-utf8 MissingQuote = (codes "x\"", (refl, refl))
completion-utf8 other = tt

-- A text of valid UTF-8 stays one with its completion.
completed_in_utf8 : (prefix : List ℕ) (fault : ParseError) → IsUtf8 prefix → Lacks prefix fault → IsViableInUtf8 prefix
completed_in_utf8 prefix fault utf8 lacks =
    (elim (completion_of fault) as (λ o. MatchOption o (Unit {0}) IsUtf8 → MatchOption o ⊥ (λ more. IsAccepted (prefix ++ more))
    → IsViableInUtf8 prefix) [
      | None ↦ λ ascii completed. absurd completed
      | Some more ↦ λ ascii completed. (more, IsUtf8-append prefix more utf8 ascii, completed)
    ]) (completion-utf8 fault) lacks.0

-- A viable text of valid UTF-8 is completed to one.
viable-in_utf8 : (prefix : List ℕ) → IsUtf8 prefix → IsViable prefix → IsViableInUtf8 prefix
viable-in_utf8 prefix utf8 viable =
    ⊎_elim
    (λ accepted. ([], subst IsUtf8 (sym (append-nil prefix)) utf8, subst IsAccepted (sym (append-nil prefix)) accepted))
    (λ is. let lacks = one_completion prefix viable is in completed_in_utf8 prefix lacks.0 utf8 lacks.1)
    (accepted_or_rejected prefix)

-- The longest viable prefix is completed to a text of valid UTF-8.
prefix-in_utf8 : (text : List ℕ) (count : ℕ) → IsUtf8 text → IsLongestPrefix text count → IsLongest IsViableInUtf8 text count
prefix-in_utf8 text count utf8 prefix = record {
  within = prefix.within;
  viable = viable-in_utf8 (take count text)
      (IsUtf8-take text count utf8 (prefix_ends_between_characters text count utf8 prefix)) prefix.viable;
  longest = λ n above within viable. prefix.longest n above within (viable.0, viable.2);
}

-- The two fronts are the same.
pub prefix_is_in_utf8 : PrefixIsInUtf8
prefix_is_in_utf8 text count utf8 = (
  prefix-in_utf8 text count utf8,
  λ other.
      let one = one_longest_prefix text in
      subst (IsLongestPrefix text) (prefix_unique text one.0 count (prefix-in_utf8 text one.0 utf8 one.1) other) one.1,
)
