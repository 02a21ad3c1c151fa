-- What a text is read as: the value of a tree, and the parts that callers see.
use Rattle.std.specs.Prelude.{◌≡◌, ◌<◌, ℕ, ◌+◌, Bool, List, [], ◌∷◌, ◌++◌, length, take, drop, slice_range, Option, Some, None, unwrap_or}
use Rattle.std.specs.Prelude.{if◌then◌else◌, ◌==◌, codes}
use Rattle.std.specs.Str.{bytes_eq}
use Rattle.std.specs.Option.{option_or, option_map}
use Rattle.mime.specs.Bytes.{slash_byte, plus_byte}
use Rattle.mime.specs.Grammar.{Parameter, plain, quoted, Parameters, blank, final, more, Tail, no_list, listed, SyntaxTree, text_of}
use Rattle.mime.specs.Grammar.{IsWellFormed}
pub use Rattle.mime_search.specs.IgnoringCase.{lowered}

-- whether a parameter's name is `charset`, ignoring ASCII case
abbrev pub is_charset : List ℕ → Bool
is_charset name = bytes_eq (lowered name) (codes "charset")

-- a parameter's value, lowercased if the parameter's name is `charset`
abbrev pub lowered_value : List ℕ → List ℕ → List ℕ
lowered_value name value = if is_charset name then lowered value else value

-- a parameter, a list and a tail with each name lowercased, and each value that belongs to a `charset`
abbrev pub lowered_parameter : Parameter → Parameter
lowered_parameter (plain name value) = plain (lowered name) (lowered_value name value)
lowered_parameter (quoted name content n) = quoted (lowered name) (lowered_value name content) n

abbrev pub lowered_list : Parameters → Parameters
lowered_list (blank n) = blank n
lowered_list (final n parameter) = final n (lowered_parameter parameter)
lowered_list (more n parameter rest) = more n (lowered_parameter parameter) (lowered_list rest)

abbrev pub lowered_tail : Tail → Tail
lowered_tail no_list = no_list
lowered_tail (listed parameters) = listed (lowered_list parameters)

-- the tree with its type, its subtype, each name and each value of a `charset` lowercased
abbrev pub lowered_tree : SyntaxTree → SyntaxTree
lowered_tree tree = record { top = lowered tree.top; sub = lowered tree.sub; tail = lowered_tail tree.tail }

-- a parameter's name and value; a quoted string is taken without its quotes, and with its backslashes
abbrev pub pair_of : Parameter → List ℕ × List ℕ
pair_of (plain name value) = (name, value)
pair_of (quoted name content n) = (name, content)

-- the pairs of name and value of a list and of a tail, in the text's order
abbrev pub pairs_of_list : Parameters → List (List ℕ × List ℕ)
pairs_of_list (blank n) = []
pairs_of_list (final n parameter) = pair_of parameter ∷ []
pairs_of_list (more n parameter rest) = pair_of parameter ∷ pairs_of_list rest

abbrev pub pairs_of_tail : Tail → List (List ℕ × List ℕ)
pairs_of_tail no_list = []
pairs_of_tail (listed parameters) = pairs_of_list parameters

-- the position of the last plus in bytes that begin at position `at`, in bytes from 0, if there is one
abbrev pub last_plus : ℕ → List ℕ → Option ℕ
last_plus at [] = None
last_plus at (b ∷ bytes) = option_or (last_plus (at + 1) bytes) (if b == plus_byte then Some at else None)

-- what a media type is: its essence, the positions in it of the slash and of the suffix's plus (in bytes from 0), its
-- parameters as pairs of name and value, and its kept text, which is what is printed
pub record MediaType : Type 0 where
  pub essence : List ℕ
  pub slash : ℕ
  pub plus : Option ℕ
  pub pairs : List (List ℕ × List ℕ)
  pub kept : List ℕ

-- the most bytes of a kept text that a `Mime` stores in itself, without memory of its own
abbrev pub most_in_place : ℕ
most_in_place = 40

-- a media type needs memory: more bytes of it are kept
abbrev pub NeedsMemory : MediaType → Type 0
NeedsMemory media = most_in_place < length media.kept

-- the essence: type, slash and subtype
abbrev pub essence_of : SyntaxTree → List ℕ
essence_of tree = tree.top ++ (slash_byte ∷ tree.sub)

-- the kept text of a tree with these pairs: its whole text if there is a pair, else its essence
abbrev pub kept_text : List (List ℕ × List ℕ) → SyntaxTree → List ℕ
kept_text [] tree = essence_of tree
kept_text (pair ∷ pairs) tree = text_of tree

-- the value of a tree; a plus that is the subtype's first byte begins no suffix
abbrev pub value_of : SyntaxTree → MediaType
value_of tree =
    let low = lowered_tree tree in
    let pairs = pairs_of_tail low.tail in
    record {
      essence = essence_of low;
      slash = length tree.top;
      plus = last_plus (length tree.top + 2) (drop 1 low.sub);
      pairs = pairs;
      kept = kept_text pairs low;
    }

-- the text is read as the value: a well-formed tree has this text and this value
pub record Reads (text : List ℕ) (value : MediaType) : Type 0 where
  pub tree : SyntaxTree
  pub well_formed : IsWellFormed tree
  pub spelled : text_of tree ≡ text
  pub valued : value_of tree ≡ value

-- the text is accepted: it is read as some value
abbrev pub IsAccepted : List ℕ → Type 0
IsAccepted text = (value : MediaType) × Reads text value

-- the text is rejected: it is read as no value
abbrev pub IsRejected : List ℕ → Type 0
IsRejected text = ¬ (IsAccepted text)

-- the parts of a value: the type, the subtype without its suffix, and the suffix if there is one
abbrev pub type_of : MediaType → List ℕ
type_of value = take value.slash value.essence

abbrev pub subtype_of : MediaType → List ℕ
subtype_of value = slice_range value.essence (value.slash + 1) (unwrap_or value.plus (length value.essence))

abbrev pub suffix_of : MediaType → Option (List ℕ)
suffix_of value = option_map (λ position. drop (position + 1) value.essence) value.plus

-- what a `Mime` holds: a value, and whether it is fixed, so that a clone allocates nothing
pub record OwnedMedia : Type 0 where
  pub media : MediaType
  pub fixed : Bool
