-- What is written into the caller's buffer: strings, each with the byte 0 after it.
use Rattle.std.specs.Prelude.{◌≡◌, ℕ, List, [], ◌∷◌, ◌++◌, length, drop, map, if◌then◌else◌, ◌==◌}
use Rattle.std.specs.List.{onto_first, flat_map}
use Rattle.mime.specs.Values.{MediaType}
use Rattle.mime.specs.Cut.{CutItem, good, bad}
use Rattle.mime_c.specs.declared.TheConstants.{MIME_GOOD, MIME_BAD}

-- a text as a string
abbrev pub string_of : List ℕ → List ℕ
string_of text = text ++ 0 ∷ []

-- texts as strings in a row
abbrev pub strings : List (List ℕ) → List ℕ
strings texts = flat_map string_of texts

-- the texts of strings: each ends before its 0
abbrev pub texts_in : List ℕ → List (List ℕ)
texts_in [] = []
texts_in (byte ∷ bytes) = if byte == 0 then [] ∷ texts_in bytes else onto_first byte (texts_in bytes)

-- the texts come back from their strings: none of them has the byte 0
abbrev pub ComeBack : List (List ℕ) → Type 0
ComeBack texts = texts_in (strings texts) ≡ texts

-- the parts of a media type: its essence, and then the name and the value of each parameter
abbrev pub parts_of : MediaType → List (List ℕ)
parts_of media = media.essence ∷ flat_map (λ pair. pair.0 ∷ pair.1 ∷ []) media.pairs

-- the texts of a media type: its parts, and then the text that it is printed as
abbrev pub texts_of : MediaType → List (List ℕ)
texts_of media = parts_of media ++ media.kept ∷ []

-- the text of an item of a list: a byte that says which it is, and then the text that a media type is printed as, or a bad piece
abbrev pub item_text : CutItem → List ℕ
item_text (good piece media) = MIME_GOOD ∷ media.kept
item_text (bad piece) = MIME_BAD ∷ piece

abbrev pub item_texts : List CutItem → List (List ℕ)
item_texts items = map item_text items

-- the caller's buffer with these bytes at its beginning; the others stay as they were
abbrev pub overwritten : List ℕ → List ℕ → List ℕ
overwritten bytes old = bytes ++ drop (length bytes) old

-- the caller's buffer with one string at its beginning, and how long its text is
abbrev pub string_in : List ℕ → List ℕ → List ℕ × ℕ
string_in old text = (overwritten (string_of text) old, length text)
