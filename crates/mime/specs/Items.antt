-- The items that `Params` yields, how contracts see a `Name`, and what a key finds.
use Rattle.std.specs.Prelude.{◌≡◌, ℕ, Bool, true, List, [], ◌∷◌, map, codes, Option, Some, None}
use Rattle.std.specs.Str.{bytes_eq}
use Rattle.mime.specs.Values.{lowered}
use Rattle.mime.specs.declared.name.Name.{Name}

-- a parameter's name and its value, each with a flag that says whether it ignores ASCII case
pub record Item : Type 0 where
  pub name : List ℕ
  pub name_ignores_case : Bool
  pub value : List ℕ
  pub value_ignores_case : Bool

-- the item of a pair: its name ignores case, and its value does exactly if the name is `charset`
abbrev pub item_of : List ℕ × List ℕ → Item
item_of (name, value) = record {
  name = name;
  name_ignores_case = true;
  value = value;
  value_ignores_case = bytes_eq name (codes "charset");
}

abbrev pub items_of : List (List ℕ × List ℕ) → List Item
items_of pairs = map item_of pairs

-- a text has no ASCII capital if it ignores case
abbrev pub IsLowIf : Bool → List ℕ → Type 0
IsLowIf ignores_case text = ignores_case ≡ true → lowered text ≡ text

-- an item's name and its value have no ASCII capitals if their flags say that they ignore case
abbrev pub IsLowItem : Item → Type 0
IsLowItem item = IsLowIf item.name_ignores_case item.name × IsLowIf item.value_ignores_case item.value

-- what is found: the value and its flag of the first item whose name a key accepts, or none if it accepts no name
abbrev pub IsFirstAccepted : (List ℕ → Bool → Type 0) → List Item → Option (List ℕ × Bool) → Type 0
IsFirstAccepted Accepts [] found = found ≡ None
IsFirstAccepted Accepts (item ∷ items) found =
    (Accepts item.name item.name_ignores_case → found ≡ Some (item.value, item.value_ignores_case))
    × (¬ (Accepts item.name item.name_ignores_case) → IsFirstAccepted Accepts items found)

-- two names, a parameter's and its value's, as an item
abbrev pub item_seen : Name × Name → Item
item_seen (name, value) = record {
  name = name.text.now;
  name_ignores_case = name.ignores_case;
  value = value.text.now;
  value_ignores_case = value.ignores_case;
}

-- a name as its text and its flag
abbrev pub name_seen : Name → List ℕ × Bool
name_seen name = (name.text.now, name.ignores_case)

-- a name's text
abbrev pub name_text : Name → List ℕ
name_text name = name.text.now
