-- The pairs of a parameter list's text, cut from the left.
use Rattle.std.specs.Prelude.{ℕ, zero, suc, Bool, ◌+◌, ◌-◌, List, [], ◌∷◌, ◌++◌, length, take, drop, Option, None, Some, if◌then◌else◌}
use Rattle.std.specs.Prelude.{◌==◌}
use Rattle.std.specs.Borrow.{Bor}
use Rattle.std.specs.List.{prefix_len, list_any}
use Rattle.mime_search.specs.Rests.{before_byte, after_byte}
use Rattle.mime.specs.Bytes.{semicolon_byte, equals_byte, quote_byte}
use Rattle.mime.specs.Grammar.{is_space}
use Rattle.mime.specs.Inner.Quoted.{content_of, after_content}
use Rattle.mime.specs.Values.{lowered, lowered_value}

-- the first pair of a list: its name, the number of bytes before its value, its value without
-- quotes, and the list after its semicolon
pub record PairCut : Type 0 where
  pub name : List ℕ
  pub value_start : ℕ
  pub value : List ℕ
  pub rest : List ℕ

-- after the equals sign: a quoted value, or a plain one.
-- The length before it is the whole length less the remaining length, so it lies within the list
abbrev pub cut_after_equals : ℕ → List ℕ → List ℕ → PairCut
cut_after_equals size name [] = record { name = name; value_start = size; value = []; rest = [] }
cut_after_equals size name (b ∷ back) =
    let text = b ∷ back in
    if b == quote_byte
    then record {
      name = name;
      value_start = size - length back;
      value = content_of back;
      rest = after_byte semicolon_byte (after_content back);
    }
    else record {
      name = name;
      value_start = size - length text;
      value = before_byte semicolon_byte text;
      rest = after_byte semicolon_byte text;
    }

-- the spaces before the first name, and the list without them
abbrev pub leading_spaces : List ℕ → ℕ
leading_spaces list = prefix_len is_space list

abbrev pub without_spaces : List ℕ → List ℕ
without_spaces list = drop (leading_spaces list) list

unfoldable pub cut_of : List ℕ → PairCut
cut_of list =
    let body = without_spaces list in
    cut_after_equals (length list) (before_byte equals_byte body) (after_byte equals_byte body)

-- the last pair of a list, with all that follows its equals sign as its value
abbrev pub last_cut : List ℕ → PairCut
last_cut list =
    let body = without_spaces list in
    let end = after_byte equals_byte body in
    record { name = before_byte equals_byte body; value_start = length list - length end; value = end; rest = [] }

-- the first pair of a list, before this number of others
abbrev pub cut_before : ℕ → List ℕ → PairCut
cut_before zero list = last_cut list
cut_before (suc others) list = cut_of list

-- whether there is an equals sign in a text
abbrev pub has_equals : List ℕ → Bool
has_equals text = list_any (λ b. b == equals_byte) text

-- the first pairs of a list, up to this number
abbrev pub pairs_within : ℕ → List ℕ → List (List ℕ × List ℕ)
pairs_within zero list = []
pairs_within (suc count) list = ((cut_of list).name, (cut_of list).value) ∷ pairs_within count (cut_of list).rest

-- the pairs after the semicolon, if there is one
abbrev pub pairs_after : ℕ → Option ℕ → List ℕ → List (List ℕ × List ℕ)
pairs_after count None text = []
pairs_after count (Some semicolon) text = pairs_within count (drop (semicolon + 1) text)

-- a pair of texts as the bytes that they have
abbrev pub pair_seen : Bor (List ℕ) × Bor (List ℕ) → List ℕ × List ℕ
pair_seen (name, value) = (name.now, value.now)

-- the list with all before a pair's value lowercased, and that value too under `charset`
abbrev pub lowered_first : PairCut → List ℕ → List ℕ
lowered_first cut list =
    lowered (take cut.value_start list) ++ (lowered_value cut.name cut.value ++ drop (cut.value_start + length cut.value) list)

-- the list with this number of its first pairs lowercased in this way
abbrev pub lowered_within : ℕ → List ℕ → List ℕ
lowered_within zero list = list
lowered_within (suc count) list =
    let cut = cut_before count list in
    take (length list - length cut.rest) (lowered_first cut list) ++ lowered_within count cut.rest
