-- A text that begins with a value's essence and a semicolon, ignoring ASCII case: what the scanner says of it, by what it says of
-- the list after the semicolon.
use Rattle.std.proofs.Common.{◌≡◌, ℕ, ◌+◌, List, [], ◌∷◌, ◌++◌, length, take, drop, Some, refl, sym, ap, ◌∙◌, subst, arith, append_assoc}
use Rattle.std.proofs.lemmas.List.{take-append-drop, drop_more}
use Rattle.std.proofs.lemmas.Option.{get_or_from_slice_get, slice_get_within}
use Rattle.mime.specs.Bytes.{slash_byte, semicolon_byte}
use Rattle.mime.specs.Grammar.{text_of, IsToken}
use Rattle.mime.specs.Values.{MediaType, Reads, essence_of, lowered, last_plus}
use Rattle.mime.specs.Inner.Remaining.{Remaining}
use Rattle.mime.specs.Inner.Scanning.{positions_of, before_list, Judges, ScansList}
use Rattle.mime.specs.Inner.ComparedText.{StartsWithEssence, positions_before_list}
use Rattle.mime.specs.declared.scan.Positions.{Positions}
use Rattle.mime.specs.declared.scan.Scanned.{Scanned}
use Rattle.mime.proofs.LowercaseLemmas.{lowered-lowered, last_plus-lowered, IsToken-case}
use Rattle.mime.proofs.ValueLemmas.KeptText.{length-before_list}
use Rattle.mime.proofs.CompareLemmas.OtherCase.{case_cut}
use Rattle.mime.proofs.CompareLemmas.Parts.{essence-lowered, length-value_essence}
use Rattle.mime_search.proofs.IgnoringCase.{length-lowered, lowered-drop}

-- a text up to the semicolon after its essence: a type, a slash and a subtype, with the positions of a value
record BeginsAs (text : List ℕ) (value : MediaType) : Type 0 where
  top : List ℕ
  sub : List ℕ
  is_top : IsToken top
  is_sub : IsToken sub
  spelled : text_of (before_list top sub) ++ drop (length value.essence + 1) text ≡ text
  counted : length (text_of (before_list top sub)) ≡ length value.essence + 1
  slash : value.slash ≡ length top
  plus : value.plus ≡ last_plus (length top + 2) (drop 1 sub)
  semicolon : length value.essence ≡ length top + 1 + length sub

-- Two texts that are equal ignoring ASCII case have as many bytes.
same_length : (one other : List ℕ) → lowered one ≡ lowered other → length one ≡ length other
same_length one other is = sym (length-lowered one) ∙ ap length is ∙ length-lowered other

-- If a value's essence begins a text, ignoring case, the text begins as the kept text does.
begun : (kept text : List ℕ) (value : MediaType) → Reads kept value → StartsWithEssence value.essence text → BeginsAs text value
begun kept text value reads (there, same) =
    let tree = reads.tree in
    let end = length value.essence in
    let essence : value.essence ≡ lowered (essence_of tree) =
    ap (λ (v : MediaType). v.essence) (sym reads.valued) ∙ essence-lowered tree in
    let cut = case_cut (take end text) tree.top (slash_byte ∷ []) tree.sub refl
    (sym same ∙ ap lowered essence ∙ lowered-lowered (essence_of tree)) in
    let tops = same_length cut.first tree.top cut.first_is in
    let subs = same_length cut.second tree.sub cut.second_is in
    let rest : drop end text ≡ semicolon_byte ∷ drop (end + 1) text =
    drop_more text end 0 (slice_get_within text end _ there)
    ∙ ap (λ b. b ∷ drop (end + 1) text) (get_or_from_slice_get text end _ 0 there) in
    let ends : end ≡ length cut.first + 1 + length cut.second =
    ap (λ (v : MediaType). length v.essence) (sym reads.valued) ∙ length-value_essence tree ∙ omega (arith, tops, subs) in
    record {
      top = cut.first;
      sub = cut.second;
      is_top = IsToken-case tree.top cut.first cut.first_is reads.well_formed.0;
      is_sub = IsToken-case tree.sub cut.second cut.second_is reads.well_formed.1;
      spelled = regrouped cut.first cut.second (drop (end + 1) text)
          ∙ ap (λ t. t ++ (semicolon_byte ∷ drop (end + 1) text)) cut.whole ∙ ap (λ t. take end text ++ t) (sym rest)
          ∙ take-append-drop end text;
      counted = length-before_list cut.first cut.second ∙ omega (arith, ends);
      slash = ap (λ (v : MediaType). v.slash) (sym reads.valued) ∙ sym tops;
      plus = ap (λ (v : MediaType). v.plus) (sym reads.valued) ∙ ap (last_plus (length tree.top + 2)) (sym (lowered-drop 1 tree.sub))
          ∙ last_plus-lowered (length tree.top + 2) (drop 1 tree.sub) ∙ sym (last_plus-lowered (length tree.top + 2) (drop 1 tree.sub))
          ∙ ap (last_plus (length tree.top + 2)) (lowered-drop 1 tree.sub ∙ ap (drop 1) (sym cut.second_is)
          ∙ sym (lowered-drop 1 cut.second))
          ∙ last_plus-lowered (length tree.top + 2) (drop 1 cut.second) ∙ ap (λ n. last_plus (n + 2) (drop 1 cut.second)) (sym tops);
      semicolon = ends;
    }
  where
    regrouped : (top sub after : List ℕ)
        → text_of (before_list top sub) ++ after ≡ (top ++ (slash_byte ∷ sub)) ++ (semicolon_byte ∷ after)
    regrouped top sub after = simp append_assoc

-- What the scanner says of the text is what it says of its list.
pub judged-by_list : (kept text : List ℕ) (value : MediaType) → Reads kept value → StartsWithEssence value.essence text
    → (before : Positions) → before ≡ positions_before_list value
    → (old new : Remaining) (verdict : Scanned) → old.left ≡ drop (length value.essence + 1) text
    → old.count ≡ length value.essence + 1 → ScansList before old new verdict → Judges text new.count verdict
judged-by_list kept text value reads starts before is old new verdict left count scans =
    let head = begun kept text value reads starts in
    let positions : positions_before_list value ≡ positions_of (before_list head.top head.sub) =
    λ i. record { slash = head.slash i; plus = head.plus i; semicolon = Some (head.semicolon i); pair_count = 0 } in
    let found = scans (record { left = text; count = 0 }) head.top head.sub head.is_top head.is_sub (is ∙ positions) (record {
      bytes = sym head.spelled ∙ ap (λ t. text_of (before_list head.top head.sub) ++ t) (sym left);
      counted = omega (arith, count, head.counted);
    }) in
    subst (λ n. Judges text n verdict) (omega arith) found.judged
