-- Strings that are written in a row into the caller's buffer.
use Rattle.std.proofs.Common.{rules, ◌≡◌, ℕ, ◌+◌, ◌*◌, ◌<◌, ◌≤◌, List, [], ◌∷◌, ◌++◌, length, take, drop, refl, sym, ap, ◌∙◌, subst, arith}
use Rattle.std.proofs.Common.{append_assoc, append-nil, length-append, length-take, length-drop, set}
use Rattle.std.specs.Str.{IsUtf8}
use Rattle.std.proofs.lemmas.List.{take_at, drop_at, drop-drop}
use Rattle.std.proofs.lemmas.Grind.{common_steps}
use Rattle.std.proofs.lemmas.List.Concat.{flat_map-append}
use Rattle.std.proofs.lemmas.List.Elements.{Contains-append_right}
use Rattle.mime.specs.{Items.Item, Items.items_of, Values.MediaType, Cut.CutItem, Cut.Cut, Runs.IsFirstItem, Runs.HasNoItem}
use Rattle.mime.specs.Runs as runs
use Rattle.mime.proofs.HandedOut.{has_cut}
use Rattle.mime_c.specs.Strings.{string_of, strings, parts_of, texts_of, item_text, item_texts}
use Rattle.mime_c.specs.Writing.{HasWritten, Writes}
use Rattle.mime_c.specs.HeaderAnswers.{range_texts, ranges_texts}
use Rattle.mime_c.specs.Answers.{has_room, ListsTo, is_listed, has_no_memory}
use Rattle.mime_c.specs.declared.TheConstants.{MIME_OK, MIME_NO_MEMORY}
use Rattle.mime_http.specs.{Ranges.weight_of, Weight.four_digits}
use Rattle.mime_c.proofs.{NoZero.pair_texts, NoZero.items_come_back, Room.items_fit, Room.strings_of_items}

-- Bytes are written after others.
pub both_written : (now mid new one other : List ℕ) (at next end : ℕ) → Writes now at one mid next → Writes mid next other new end
    → Writes now at (one ++ other) new end
both_written now mid new one other at next end first second = search (append_assoc, rules)

-- A text fits if there is room for it after what is written.
pub fits : {old now prefix : List ℕ} {at : ℕ} → HasWritten old now at prefix → (text more : List ℕ)
    → length (prefix ++ (string_of text ++ more)) ≤ length old → at + length text < length now
fits {old} {now} {prefix} wrote text more room = search (length-append, length-drop, rules)

-- Of all bytes that are to be written some are there, and the others are left.
pub record Leaves (old now : List ℕ) (at : ℕ) (left all : List ℕ) : Type 0 where
  pub prefix : List ℕ
  pub wrote : HasWritten old now at prefix
  pub onward : prefix ++ left ≡ all

-- All bytes are left at first, after those before a position.
pub leaves-first : (old all : List ℕ) (at : ℕ) → at ≤ length old → Leaves old old at all (take at old ++ all)
leaves-first old all at within = grind (arith, common_steps, length-take)

-- All bytes fit if there is room for them from a position on.
pub leaves-room : (old all : List ℕ) (at : ℕ) → at + length all ≤ length old → length (take at old ++ all) ≤ length old
leaves-room old all at room = omega (arith, length-append (take at old) all, length-take at old)

module _ {old now left all : List ℕ} {at : ℕ} (leaves : Leaves old now at left all) where
  -- The next string that is left fits.
  pub leaves-fits : (text more : List ℕ) → left ≡ string_of text ++ more → length all ≤ length old
      → at + length text < length now
  leaves-fits text more is room = fits leaves.wrote text more (rw (← is, leaves.onward) room)

  -- The next bytes that are left fit.
  pub leaves-holds : (bytes more : List ℕ) → left ≡ bytes ++ more → length all ≤ length old → at + length bytes ≤ length now
  leaves-holds bytes more is room = search (length-append, length-drop, rules)

  -- The bytes after the next are left once the next are written.
  pub leaves-next : (bytes more new : List ℕ) (end : ℕ) → left ≡ bytes ++ more → Writes now at bytes new end
      → Leaves old new end more all
  leaves-next bytes more new end is writes = search (append_assoc, rules)

-- All bytes are written if nothing is left.
pub leaves-last : {old now all : List ℕ} {at : ℕ} → Leaves old now at [] all → HasWritten old now at all
leaves-last {old} {now} {all} {at} leaves = subst (HasWritten old now at) (sym (append-nil leaves.prefix) ∙ leaves.onward) leaves.wrote

-- All bytes are written from a position on if nothing is left.
pub writes-all : {old now left all : List ℕ} {at end : ℕ} → Leaves old now end left (take at old ++ all) → left ≡ []
    → Writes old at all now end
writes-all {old} {now} {left} {all} {at} {end} leaves none = record {
  adds = λ older prefix wrote.
      let last = leaves-last (subst (λ it. Leaves old now end it (take at old ++ all)) none leaves) in
      let before : take at old ≡ prefix = ap (take at) wrote.there ∙ take_at prefix _ at (sym wrote.end) in
      let behind : drop (length prefix) old ≡ drop (length prefix) older =
      ap (drop (length prefix)) wrote.there ∙ drop_at prefix _ (length prefix) refl in
      let after : drop (length (prefix ++ all)) old ≡ drop (length (prefix ++ all)) older =
      rw (length-append prefix all) (sym (drop-drop (length all) (length prefix) old) ∙ ap (drop (length all)) behind
      ∙ drop-drop (length all) (length prefix) older) in
      record { there = cc (before, after, last.there); end = last.end ∙ ap (λ it. length (it ++ all)) before };
}

-- A text is a string if the 0 was written before it.
pub ended_before : (now text new : List ℕ) (i at end : ℕ) → i ≡ at + length text → i < length now
    → Writes (set now i 0) at text new end → Writes now at (string_of text) new (end + 1)
unfolding leaves-first
ended_before now text new i at end is room writes =
    let last = writes.adds _ _ (leaves-first (set now i 0) [] at (grind (arith, common_steps, is, room))).wrote in
    writes-all (record {
      prefix = take at now ++ string_of text;
      wrote = record { there = grind (arith, common_steps, last.there, is, room); end = grind (arith, common_steps, last.end, is, room) };
      onward = append-nil _;
    }) refl

-- The position after bytes that were written is as many bytes further on.
pub writes-end : {old new bytes : List ℕ} {at end : ℕ} → at ≤ length old → Writes old at bytes new end
    → end ≡ at + length bytes
unfolding leaves-first
writes-end {old} {new} {bytes} {at} within writes =
    let wrote = writes.adds old (take at old) (leaves-first old [] at within).wrote in
    omega (arith, wrote.end, length-append (take at old) bytes, length-take at old)

-- Bytes that are written first are all that is written.
pub wrote-first : {old new bytes : List ℕ} {end : ℕ} → Writes old 0 bytes new end → HasWritten old new end bytes
wrote-first {old} writes = writes.adds old [] (record { there = refl; end = refl })

-- ---- the parts of a media type

-- The names and the values of items.
abbrev pub given_texts : List Item → List (List ℕ)
given_texts [] = []
given_texts (item ∷ items) = item.name ∷ item.value ∷ given_texts items

-- The texts of the items of pairs are those of the pairs.
given_texts-items_of : (pairs : List (List ℕ × List ℕ)) → given_texts (items_of pairs) ≡ pair_texts pairs
given_texts-items_of [] = refl
given_texts-items_of ((name, value) ∷ pairs) = ap (λ texts. name ∷ value ∷ texts) (given_texts-items_of pairs)

-- The essence is the first of the parts.
pub given-first : (media : MediaType) (items : List Item) (text : List ℕ) → items ≡ items_of media.pairs → text ≡ media.essence
    → strings (parts_of media) ≡ string_of text ++ strings (given_texts items)
given-first media items text given is = rw (given, is, given_texts-items_of media.pairs) refl

-- The name and the value of an item come next.
pub given-next : (items more : List Item) (item : Item) (name value : List ℕ) → items ≡ item ∷ more → name ≡ item.name
    → value ≡ item.value → strings (given_texts items) ≡ string_of name ++ (string_of value ++ strings (given_texts more))
given-next items more item name value next named valued = rw (next, named, valued) refl

-- A media type has its kept text after its parts.
pub strings_of_texts : (media : MediaType) → strings (texts_of media) ≡ strings (parts_of media) ++ string_of media.kept
strings_of_texts media = search (flat_map-append, append-nil, rules)

-- A range has its weight, its parts and an empty string.
pub strings_of_range : (range : MediaType)
    → strings (range_texts range) ≡ ((four_digits (weight_of range) ++ 0 ∷ []) ++ strings (parts_of range)) ++ 0 ∷ []
strings_of_range range = search (flat_map-append, append_assoc, rules)

-- Ranges have the strings of the first, and then those of the others.
pub strings_of_ranges : (range : MediaType) (ranges : List MediaType)
    → strings (ranges_texts (range ∷ ranges)) ≡ strings (range_texts range) ++ strings (ranges_texts ranges)
strings_of_ranges range ranges = flat_map-append string_of (range_texts range) (ranges_texts ranges)

-- ---- the items of a list

-- Some items of a text are written, and the others are those of what is left of it.
pub record Lists (text old now : List ℕ) (at : ℕ) (left : List ℕ) : Type 0 where
  pub before : List CutItem
  pub cuts : (items : List CutItem) (rest : List ℕ) → Cut left items rest → Cut text (before ++ items) rest
  pub wrote : HasWritten old now at (strings (item_texts before))

module _ {text old now left next : List ℕ} {at : ℕ} {item : CutItem} (lists : Lists text old now at left)
    (is_first : IsFirstItem left item next) where
  -- The text of the next item fits.
  pub lists-fits : (body : List ℕ) → item_text item ≡ body → 2 * length text ≤ length old → at + length body < length now
  lists-fits body is room =
      let has = has_cut next in
      let all = item ∷ has.items in
      let size = items_fit text _ has.rest (lists.cuts all has.rest (is_first has.items has.rest has.cut)) in
      rw (← is) (fits lists.wrote (item_text item) (strings (item_texts has.items))
      (omega (arith, room, size, ap length (strings_of_items lists.before all))))

  -- The items after the next are left once the next is written.
  pub lists-next : (body new : List ℕ) (end : ℕ) → item_text item ≡ body → Writes now at (string_of body) new end
      → Lists text old new end next
  lists-next body new end is writes =
      let here = item ∷ [] in
      let there = ap (λ it. strings (item_texts lists.before) ++ it) (append-nil (string_of (item_text item)) ∙ ap string_of is) in
      record {
        before = lists.before ++ here;
        cuts = λ items rest cut. subst (λ all. Cut text all rest) (sym (append_assoc lists.before here items))
            (lists.cuts (item ∷ items) rest (is_first items rest cut));
        wrote = subst (HasWritten old new end) (sym (strings_of_items lists.before here ∙ there)) (writes.adds old _ lists.wrote);
      }

module _ {text old now left : List ℕ} {at : ℕ} (lists : Lists text old now at left) (room : 2 * length text ≤ length old)
    (utf8 : IsUtf8 text) where
  -- All items are listed at the end.
  pub lists-last : HasNoItem left → ListsTo text old MIME_OK (now, at)
  lists-last (rest, none) = search (append-nil, has_room, is_listed, items_come_back, rules)

  -- The call says that there was no memory for an item.
  pub lists-no_memory : runs.FirstNeedsMemory left → ListsTo text old MIME_NO_MEMORY (now, 0)
  lists-no_memory needs = search (has_room, has_no_memory, Contains-append_right, rules)
