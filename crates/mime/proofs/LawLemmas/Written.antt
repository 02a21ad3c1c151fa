-- The essence of a value and its parts, and what is written into a header.
use Rattle.std.proofs.lemmas.Grind.{common_steps}
use Rattle.std.proofs.lemmas.List.{take-append-drop, drop_more, drop_all, length-drop}
use Rattle.std.proofs.lemmas.List.Folds.{drop_split}
use Rattle.std.proofs.lemmas.Option.{slice_get_within, get_or_from_slice_get, none-some, option_and_then_some}
use Rattle.std.proofs.lemmas.Bool.{and_from, cond-false, true_from_ne_false}
use Rattle.std.proofs.lemmas.Bool.Decides.{nat_tests}
use Rattle.std.proofs.Common.{◌≡◌, ℕ, ◌+◌, List, ◌∷◌, ◌++◌, length, drop, Option, Some, None, sym, ap, ◌∙◌, subst, refl, arith, zero, suc}
use Rattle.std.proofs.Common.{◌-◌, ◌<◌, Bool, true, false, [], take, append_assoc, append-nil, rules}
use Rattle.std.specs.Prelude.{slice_get, slice_range, unwrap_or, IsFalse, MatchOption, ◌==◌}
use Rattle.std.specs.{Option.option_map, Option.IfSome, List.AllByRecursion, List.list_all}
use Rattle.mime.specs.Bytes.{slash_byte, plus_byte, is_token_byte, is_quoted_byte, is_quoted_text_byte, quote_byte}
use Rattle.mime.specs.Values.{MediaType, Reads, lowered, lowered_tree, type_of, subtype_of, suffix_of, lowered_value, lowered_tail, pair_of}
use Rattle.mime.specs.Values.{pairs_of_list, pairs_of_tail}
use Rattle.mime.specs.Laws.{without_parameters, suffix_text, EssenceIsRead, EssenceIsParts, SameEssence}
use Rattle.mime.specs.Grammar.{Parameter, plain, quoted, Parameters, blank, final, more, no_list, listed, SyntaxTree, AreTokenBytes}
use Rattle.mime.specs.Grammar.{IsToken, IsContent, IsParameter, AreParameters, IsTail}
use Rattle.mime.specs.HeaderLaws.{AreHeaderBytes, IsSafePair, KeptIsSafe, text_with_parameter, with_parameter, ParameterIsRead}
use Rattle.mime.specs.Inner.Quoted.{takes, awaits_after, continues}
use Rattle.mime.proofs.LowercaseLemmas.{lowered-lowered, IsToken-lowered, lowered_tree-lowered_tree, IsWellFormed-lowered_tree}
use Rattle.mime.proofs.ValueLemmas.ListText.{ended, drop_past}
use Rattle.mime.proofs.ValueLemmas.Parts.{slash_in, plus_in, subtype_end}
use Rattle.mime.proofs.GrammarLemmas.Readings.{one_reading, walk-accepted}
use Rattle.mime.proofs.GrammarLemmas.Begun.{Begun, in_type, in_list, in_quotes, list_at, grow, walk_from}
use Rattle.mime.proofs.BytesLemmas.{list_all-wider, list_all-parts, AreTokenBytes-from_token, token-size}
use Rattle.mime.proofs.GrammarLemmas.Characters.{IsForeign, IsForeign-outside, IsOpen, grow-foreign}
use Rattle.mime.proofs.ValueLemmas.KeptText.{value_of_low, value_of-lowering, kept_is_read}
use Rattle.mime.proofs.GrammarLemmas.Content.{IsContent-taken, takes_all-text, awaits_after-text}
use Rattle.mime_search.proofs.IgnoringCase.{length-lowered}

-- The essence of a value that was read is read as the value without its parameters.
pub essence_is_read : EssenceIsRead
essence_is_read text value reads =
    let bare : SyntaxTree = record { top = reads.tree.top; sub = reads.tree.sub; tail = no_list } in
    record {
      tree = lowered_tree bare;
      well_formed = IsWellFormed-lowered_tree bare (reads.well_formed.0, reads.well_formed.1, tt);
      spelled = ap (λ x. (lowered_tree bare).top ++ (47 ∷ x)) (append-nil (lowered_tree bare).sub)
          ∙ ap (λ (v : MediaType). v.essence) reads.valued;
      valued = value_of-lowering (lowered_tree bare) ∙ ap value_of_low (lowered_tree-lowered_tree bare) ∙ sym (value_of-lowering bare)
          ∙ ap without_parameters reads.valued;
    }

-- The bytes from a position on begin with the byte there.
drop-from : (bytes : List ℕ) (p b : ℕ) → slice_get bytes p ≡ Some b → drop p bytes ≡ b ∷ drop (p + 1) bytes
drop-from bytes p b there =
    drop_more bytes p b (slice_get_within bytes p b there) ∙ ap (λ x. x ∷ drop (p + 1) bytes) (get_or_from_slice_get bytes p b b there)

-- What follows the slash is the subtype of the tree.
after_slash-read : (text : List ℕ) (value : MediaType) (reads : Reads text value)
    → drop (value.slash + 1) value.essence ≡ lowered reads.tree.sub
after_slash-read text value reads =
    let top = lowered reads.tree.top in
    let sub = lowered reads.tree.sub in
    subst (λ (v : MediaType). drop (v.slash + 1) v.essence ≡ sub) reads.valued
    (drop_past slash_byte top (slash_byte ∷ sub) sub _ (ended sub) (length-lowered reads.tree.top))

-- What follows the slash is the subtype, and a plus with the suffix if there is one.
after_slash : (text : List ℕ) (value : MediaType) (plus : Option ℕ) → Reads text value → value.plus ≡ plus
    → drop (value.slash + 1) value.essence ≡ slice_range value.essence (value.slash + 1) (unwrap_or plus (length value.essence))
    ++ suffix_text (option_map (λ position. drop (position + 1) value.essence) plus)
after_slash text value plus reads is =
    drop_split value.essence (value.slash + 1) _ (subtype_end text value.essence value plus reads refl is).0
    ∙ ap (λ rest. slice_range value.essence (value.slash + 1) (unwrap_or plus (length value.essence)) ++ rest) (from_plus plus is)
  where
    from_plus : (plus : Option ℕ) → value.plus ≡ plus → drop (unwrap_or plus (length value.essence)) value.essence
        ≡ suffix_text (option_map (λ position. drop (position + 1) value.essence) plus)
    from_plus None is = drop_all (length value.essence) value.essence (omega arith)
    from_plus (Some p) is = drop-from value.essence p plus_byte (plus_in text value.essence value p reads refl is).there

-- The essence is its parts.
pub essence_is_parts : EssenceIsParts
essence_is_parts text value reads =
    sym (take-append-drop value.slash value.essence) ∙ ap (λ rest. type_of value ++ rest)
    (drop-from value.essence value.slash slash_byte (slash_in text value.essence value reads refl)
    ∙ ap (λ rest. slash_byte ∷ rest) (after_slash text value value.plus reads refl))

-- Values of one essence have one type, subtype and suffix, and those make up the essence.
pub same_essence : SameEssence
same_essence one other first second reads again = (
  λ same.
      let bare = one_reading second.essence (without_parameters first) (without_parameters second)
      (subst (λ t. Reads t (without_parameters first)) same (essence_is_read one first reads)) (essence_is_read other second again) in
      (ap type_of bare, ap subtype_of bare, ap suffix_of bare),
  λ same.
      essence_is_parts one first reads ∙ (λ i. same.0 i ++ (slash_byte ∷ (same.1 i ++ suffix_text (same.2 i))))
      ∙ sym (essence_is_parts other second again),
)

-- ---- the bytes of an accepted text

-- It may occur in no quoted value.
unsafe-untaken : (awaiting : Bool) (b : ℕ) → IsFalse (is_quoted_byte b) → IsFalse (takes awaiting b)
unsafe-untaken awaiting b unsafe = search rules

-- A byte that a header doesn't have leads nowhere.
unsafe-dead : (begun : Begun) (b : ℕ) → IsFalse (is_quoted_byte b) → grow begun b ≡ None
unfolding is_quoted_byte
unsafe-dead begun b unsafe =
    elim (grow begun b) as (λ o. MatchOption o (Unit {0}) (λ next. IsOpen begun × IsOpen next) → grow begun b ≡ o → o ≡ None) [
      | None ↦ λ leads is. refl
      | Some next ↦ λ leads is. sym is ∙ ap (λ (state : Begun). grow state b) leads.0.is ∙ closed leads.0
    ] (grow-foreign begun b foreign) refl
  where
    foreign : IsForeign b
    foreign = IsForeign-outside b (grind (arith, nat_tests, unsafe))

    closed : (at : IsOpen begun) → grow (in_list at.top at.sub (list_at at.closed (in_quotes at.spaces at.name at.content))) b ≡ None
    closed at =
        ap (option_map (in_list at.top at.sub))
        (cond-false (continues at.content b) _ _ (unsafe-untaken (awaits_after false at.content) b unsafe)
        ∙ cond-false (b == quote_byte) _ None foreign.quote)

-- A text that is walked has no such byte.
pub walked-safe : (start last : Begun) (text : List ℕ) → walk_from start text ≡ Some last → AreHeaderBytes text
walked-safe start last [] walked = refl
walked-safe start last (b ∷ text) walked =
    option_and_then_some (λ next. walk_from next text) (grow start b) last walked
    (λ next grows goes.
    let safe = true_from_ne_false (is_quoted_byte b) (λ unsafe. none-some next (sym (unsafe-dead start b unsafe) ∙ grows)) in
    and_from (is_quoted_byte b) _ safe (walked-safe next last text goes))

-- ---- the parts

-- A token is quoted content.
pub content-from_token : (bytes : List ℕ) → IsToken bytes → IsContent bytes
unfolding is_token_byte is_quoted_byte
content-from_token bytes token =
    let text : list_all is_quoted_text_byte bytes ≡ true =
    list_all-wider is_token_byte is_quoted_text_byte (λ b token. grind (arith, nat_tests, token)) bytes
    (AreTokenBytes-from_token bytes token) in
    IsContent-taken bytes (takes_all-text bytes text) (awaits_after-text bytes text)

-- A well-formed parameter has a safe pair.
safe_pair : (p : Parameter) → IsParameter p → IsSafePair (pair_of p)
safe_pair (plain name value) well = (well.0, content-from_token value well.1)
safe_pair (quoted name content n) well = (well.0, well.1)

-- The pairs of a well-formed list are safe.
safe_pairs : (list : Parameters) → AreParameters list → AllByRecursion IsSafePair (pairs_of_list list)
safe_pairs (blank n) well = tt
safe_pairs (final n p) well = (safe_pair p well.1, tt)
safe_pairs (more n p rest) well = (safe_pair p well.1, safe_pairs rest well.2)

-- A token's prefix is a token, unless it is empty.
token-take : (n : ℕ) (bytes : List ℕ) → 0 < n → IsToken bytes → IsToken (take n bytes)
token-take n [] some token = absurd cc
token-take zero (b ∷ bytes) some token = absurd (omega (arith, some))
token-take (suc n) (b ∷ bytes) some token =
    (list_all-parts is_token_byte (b ∷ take n bytes) (drop n bytes) (rw (take-append-drop n bytes) token)).0

-- The subtype isn't empty.
subtype_some : (text : List ℕ) (value : MediaType) (plus : Option ℕ) → Reads text value → value.plus ≡ plus
    → 0 < unwrap_or plus (length value.essence) - (value.slash + 1)
subtype_some text value None reads is =
    let size = token-size (lowered reads.tree.sub) (IsToken-lowered reads.tree.sub reads.well_formed.1) in
    omega (arith, size, ap length (after_slash-read text value reads), length-drop (value.slash + 1) value.essence)
subtype_some text value (Some p) reads is = omega (arith, (plus_in text value.essence value p reads refl is).above)

-- The suffix has token bytes.
suffix_bytes : (suffix : Option (List ℕ)) → AreTokenBytes (suffix_text suffix) → IfSome suffix AreTokenBytes
suffix_bytes suffix all = search rules

-- A value that was read is safe in a header.
pub kept_is_safe : KeptIsSafe
kept_is_safe text value reads =
    let walked = walk-accepted value.kept (value, kept_is_read text value reads) in
    let low = IsWellFormed-lowered_tree reads.tree reads.well_formed in
    let after = subst IsToken (sym (after_slash-read text value reads)) low.1 in
    let top : type_of value ≡ lowered reads.tree.top = grind (arith, common_steps) in
    record {
      kept = walked-safe (in_type []) walked.0 value.kept walked.2.0;
      top = subst IsToken (sym top) low.0;
      sub = token-take _ (drop (value.slash + 1) value.essence) (subtype_some text value value.plus reads refl) after;
      suffix = suffix_bytes (suffix_of value) (list_all-parts is_token_byte (subtype_of value) (suffix_text (suffix_of value))
          (subst AreTokenBytes (after_slash text value value.plus reads refl) (AreTokenBytes-from_token _ after))).1;
      pairs = subst (λ (v : MediaType). AllByRecursion IsSafePair v.pairs) reads.valued
          ((elim (lowered_tail reads.tree.tail) as (λ tail. IsTail tail → AllByRecursion IsSafePair (pairs_of_tail tail))
          [ no_list ↦ λ well. tt | listed list ↦ safe_pairs list ]) low.2);
    }

-- ---- a parameter

-- An essence with a parameter after it is read as the value with that parameter.
pub parameter_is_read : ParameterIsRead
parameter_is_read text value name content reads named is =
    let top = lowered reads.tree.top in
    let sub = lowered reads.tree.sub in
    let tree : SyntaxTree = record { top = top; sub = sub; tail = listed (final (32 ∷ []) (quoted name content [])) } in
    subst
    (λ (v : MediaType). Reads (text_with_parameter v.essence name content) (with_parameter v (lowered name) (lowered_value name content)))
    reads.valued (record {
      tree = tree;
      well_formed = (
        IsToken-lowered reads.tree.top reads.well_formed.0,
        IsToken-lowered reads.tree.sub reads.well_formed.1,
        (refl, (named, is, refl)),
      );
      spelled = simp append_assoc;
      valued = rw (lowered-lowered reads.tree.top, lowered-lowered reads.tree.sub, length-lowered reads.tree.top) (simp append_assoc);
    })
