-- Texts and values for which each definition of a value, its parts, its items and its names is true, and others for which it is
-- false, by computation.
use Rattle.std.proofs.Common.{◌≡◌, ◌≢◌, ℕ, Bool, true, false, List, [], ◌∷◌, ◌++◌, map, Some, None, refl, sym, ap, ◌∙◌, arith, codes}
use Rattle.std.proofs.{lemmas.Bool.true≢false, lemmas.Option.none-some, lemmas.Option.same_Some, lemmas.Slice.Eq.bytes_eq-Decides}
use Rattle.std.specs.{Fmt.digits, Str.bytes_eq}
use Rattle.mime.specs.{Bytes.is_token_byte, Grammar.plain, Grammar.quoted, Grammar.blank, Grammar.final, Grammar.more, Grammar.no_list}
use Rattle.mime.specs.{Grammar.listed, Grammar.SyntaxTree, Values.MediaType, Values.lowered, Values.is_charset, Values.lowered_value}
use Rattle.mime.specs.{Values.lowered_parameter, Values.lowered_list, Values.lowered_tail, Values.lowered_tree, Values.pair_of}
use Rattle.mime.specs.{Values.pairs_of_list, Values.pairs_of_tail, Values.last_plus, Values.essence_of, Values.kept_text}
use Rattle.mime.specs.{Values.Reads, Values.NeedsMemory, Values.IsAccepted, Values.IsRejected, Values.type_of}
use Rattle.mime.specs.{Values.subtype_of, Values.suffix_of, Items.Item, Items.item_of}
use Rattle.mime.specs.{Items.items_of, Items.IsLowIf, Items.IsLowItem, Items.IsFirstAccepted, Items.item_seen, Items.name_seen}
use Rattle.mime.specs.{Items.name_text, Names.NameIs, Names.name_table, Atoms.atom_text, Printed.fault_text, Printed.fault_text}
use Rattle.mime.specs.{Printed.error_text, declared.atoms.Atom.TheVariants.STAR_STAR}
use Rattle.mime.specs.{declared.atoms.Atom.TheVariants.TEXT_PLAIN_UTF_8, declared.atoms.Atom.TheVariants.IMAGE_SVG}
use Rattle.std.specs.Prelude.{drop, take}
use Rattle.mime.specs.{declared.name.Name.Name, declared.scan.fault.ParseError.TheVariants.MissingSlash}
use Rattle.mime.specs.{declared.scan.fault.ParseError.TheVariants.MissingSubtype, declared.scan.fault.ParseError.TheVariants.MissingEqual}
use Rattle.mime.specs.{declared.scan.fault.ParseError.TheVariants.MissingValue, declared.scan.fault.ParseError.TheVariants.MissingQuote}
use Rattle.mime.specs.{declared.scan.fault.ParseError.TheVariants.InvalidToken, declared.scan.fault.ParseError.TheVariants.NoMemory}
use Rattle.mime.proofs.GrammarLemmas.Readings.{one_reading, stopped-from_walk}
use Rattle.mime_facts.proofs.StandardFacts.{media, tree_from_parts, reads}

-- Texts on which a test answers otherwise differ.
pub differ : (first second : List ℕ) → bytes_eq first second ≡ false → first ≢ second
differ first second is same = true≢false (sym ((bytes_eq-Decides first second).1 same) ∙ is)

-- ---- lowercasing

-- Only the capitals of ASCII are lowercased.
capitals_lowered : lowered (64 ∷ 65 ∷ 90 ∷ 91 ∷ 97 ∷ 195 ∷ 137 ∷ []) ≡ 64 ∷ 97 ∷ 122 ∷ 91 ∷ 97 ∷ 195
    ∷ 137 ∷ []
capitals_lowered = refl

-- `charset` in any case is the name whose value is lowercased.
charsets : (is_charset (codes "CharSet") ≡ true) × (is_charset (codes "charsets") ≡ false)
    × (lowered_value (codes "CHARSET") (codes "UTF") ≡ codes "utf") × (lowered_value (codes "boundary") (codes "UTF") ≡ codes "UTF")
charsets = (refl, refl, refl, refl)

-- Names are lowercased in a parameter, a list and a tail, and so is the value of a `charset`. Spaces and other values stay.
names_lowered : (lowered_parameter (plain (codes "P") (codes "X")) ≡ plain (codes "p") (codes "X"))
    × (lowered_parameter (quoted (codes "Charset") (codes "\\X") (codes " ")) ≡ quoted (codes "charset") (codes "\\x") (codes " "))
    × (lowered_list (blank (codes " ")) ≡ blank (codes " "))
    × (lowered_list (final [] (plain (codes "P") (codes "X"))) ≡ final [] (plain (codes "p") (codes "X")))
    × (lowered_list (more [] (plain (codes "P") (codes "X")) (blank [])) ≡ more [] (plain (codes "p") (codes "X")) (blank []))
    × (lowered_tail no_list ≡ no_list)
    × (lowered_tail (listed (final [] (plain (codes "P") []))) ≡ listed (final [] (plain (codes "p") [])))
names_lowered = (refl, refl, refl, refl, refl, refl, refl)

-- A tree with a list of parameters.
abbrev capitals : SyntaxTree
capitals = tree_from_parts (codes "A") (codes "B+C")
    (listed (more (codes " ") (plain (codes "P") (codes "X")) (final [] (quoted (codes "Charset") (codes "\\X") (codes " ")))))

-- The lowercased form of `A/B+C` keeps the value under `P`, and all spaces.
lowered_capitals :
    lowered_tree capitals ≡ tree_from_parts (codes "a") (codes "b+c")
    (listed (more (codes " ") (plain (codes "p") (codes "X")) (final [] (quoted (codes "charset") (codes "\\x") (codes " ")))))
lowered_capitals = refl

-- A pair is the name and the value, without quotes and with backslashes; a list has one for each parameter, in order.
pairs_of_parts : (pair_of (plain (codes "p") (codes "x")) ≡ (codes "p", codes "x"))
    × (pair_of (quoted (codes "p") (codes "\\x") (codes " ")) ≡ (codes "p", codes "\\x")) × (pairs_of_list (blank (codes " ")) ≡ [])
    × (pairs_of_list (more [] (plain (codes "q") (codes "y")) (final [] (plain (codes "p") (codes "x"))))
    ≡ (codes "q", codes "y") ∷ (codes "p", codes "x") ∷ [])
pairs_of_parts = (refl, refl, refl, refl)

-- The pairs of `A/B+C`, without quotes and with backslashes, the essence, and the kept text with a pair and without one.
parts_of_capitals :
    (pairs_of_tail capitals.tail ≡ (codes "P", codes "X") ∷ (codes "Charset", codes "\\X") ∷ []) × (pairs_of_tail no_list ≡ [])
    × (essence_of capitals ≡ codes "A/B+C") × (kept_text [] capitals ≡ codes "A/B+C")
    × (kept_text ((codes "p", codes "x") ∷ []) capitals ≡ codes "A/B+C; P=X;Charset=\"\\X\" ")
parts_of_capitals = (refl, refl, refl, refl, refl)

-- The last plus, by its position from where the bytes begin.
last_pluses : (last_plus 3 (codes "a+b+c") ≡ Some 6) × (last_plus 3 (codes "abc") ≡ None)
last_pluses = (refl, refl)

-- ---- reading

-- The value of `a/b`.
abbrev pub plain_value : MediaType
plain_value = media (codes "a/b") 1 None [] (codes "a/b")

-- A text in capitals is read as a value in lowercase.
pub reads_capitals : Reads (codes "A/B") plain_value
unfolding is_token_byte
reads_capitals = reads (codes "A") (codes "B") no_list (refl, refl, tt)

-- A value keeps no capitals of its essence.
pub keeps_no_capitals : ¬ (Reads (codes "A/B") (media (codes "a/b") 1 None [] (codes "A/B")))
keeps_no_capitals other = differ (codes "a/b") (codes "A/B") refl (ap (λ (v : MediaType). v.kept) (one_reading _ _ _ reads_capitals other))

-- Media types of 41 bytes and of 40.
abbrev pub text_of_41 : List ℕ
text_of_41 = codes "application/x-forty-one-bytes-in-all-here"

abbrev pub text_of_40 : List ℕ
text_of_40 = codes "application/x-forty-bytes-of-text-in-all"

-- A media type of 41 bytes is read.
pub reads_41 : Reads text_of_41 (media text_of_41 11 None [] text_of_41)
unfolding is_token_byte
reads_41 = reads (codes "application") (codes "x-forty-one-bytes-in-all-here") no_list (refl, refl, tt)

abbrev pub value_of_40 : MediaType
value_of_40 = media text_of_40 11 None [] text_of_40

-- A media type of 40 bytes is read.
pub reads_40 : Reads text_of_40 value_of_40
unfolding is_token_byte
reads_40 = reads (codes "application") (codes "x-forty-bytes-of-text-in-all") no_list (refl, refl, tt)

-- A media type of which 41 bytes are kept needs memory, and one of which 40 are kept needs none.
needs : NeedsMemory (media text_of_41 11 None [] text_of_41) × ¬ (NeedsMemory value_of_40)
needs = (omega arith, λ long. absurd (omega (arith, long)))

-- A text of 41 bytes of which 40 are kept is read.
pub reads_dropped : Reads (text_of_40 ++ codes ";") value_of_40
unfolding is_token_byte
reads_dropped = reads (codes "application") (codes "x-forty-bytes-of-text-in-all") (listed (blank [])) (refl, refl, refl)

-- An accepted text isn't rejected, and a text with a space in its type is.
accepted_and_rejected : IsAccepted (codes "A/B") × ¬ (IsRejected (codes "A/B")) × IsRejected (codes "a b")
    × ¬ (IsAccepted (codes "a b"))
unfolding is_token_byte
accepted_and_rejected = (
  (plain_value, reads_capitals),
  (λ is. is (plain_value, reads_capitals)),
  stopped-from_walk (codes "a b") refl,
  stopped-from_walk (codes "a b") refl,
)

-- The parts of a value with a suffix, and of one without.
parts_of_value : (type_of (media (codes "image/svg+xml") 5 (Some 9) [] []) ≡ codes "image")
    × (subtype_of (media (codes "image/svg+xml") 5 (Some 9) [] []) ≡ codes "svg")
    × (suffix_of (media (codes "image/svg+xml") 5 (Some 9) [] []) ≡ Some (codes "xml")) × (subtype_of plain_value ≡ codes "b")
    × (suffix_of plain_value ≡ None)
parts_of_value = (refl, refl, refl, refl, refl)

-- ---- items

-- The item of `p=X`, and that of `charset=x`.
abbrev pub exact_item : Item
exact_item = record { name = codes "p"; name_ignores_case = true; value = codes "X"; value_ignores_case = false }

abbrev pub charset_item : Item
charset_item = record { name = codes "charset"; name_ignores_case = true; value = codes "x"; value_ignores_case = true }

-- Each name ignores case, and of the values only that of `charset` does.
item_of_pair : (item_of (codes "p", codes "X") ≡ exact_item) × (item_of (codes "charset", codes "x") ≡ charset_item)
item_of_pair = (refl, refl)

-- The items of pairs are in their order.
items_of_pairs : items_of ((codes "p", codes "X") ∷ (codes "charset", codes "x") ∷ []) ≡ exact_item ∷ charset_item ∷ []
items_of_pairs = refl

-- What ignores case has no capital.
low_texts : IsLowIf true (codes "é") × IsLowIf false (codes "X") × ¬ (IsLowIf true (codes "X")) × IsLowItem exact_item
    × ¬ (IsLowItem (record exact_item { name = codes "P" })) × ¬ (IsLowItem (record charset_item { value = codes "X" }))
low_texts = (
  (λ is. refl),
  (λ is. absurd (true≢false (sym is))),
  (λ is. differ (codes "x") (codes "X") refl (is refl)),
  ((λ is. refl), λ is. absurd (true≢false (sym is))),
  (λ is. differ (codes "p") (codes "P") refl (is.0 refl)),
  λ is. differ (codes "x") (codes "X") refl (is.1 refl),
)

-- A key of this name.
abbrev IsName : List ℕ → List ℕ → Bool → Type 0
IsName key name ignores_case = name ≡ key

-- The answer of such a key: that of the first item of its name, whatever precedes it, and none if there is no such item.
first_answers :
    IsFirstAccepted (IsName (codes "charset")) (exact_item ∷ charset_item ∷ []) (Some (codes "x", true))
    × ¬ (IsFirstAccepted (IsName (codes "charset")) (exact_item ∷ charset_item ∷ []) (Some (codes "X", false)))
    × ¬ (IsFirstAccepted (IsName (codes "charset")) (exact_item ∷ charset_item ∷ []) None)
    × IsFirstAccepted (IsName (codes "q")) (exact_item ∷ []) None
    × ¬ (IsFirstAccepted (IsName (codes "q")) (exact_item ∷ []) (Some (codes "X", false)))
first_answers =
    let other = differ (codes "p") (codes "charset") refl in
    let absent = differ (codes "p") (codes "q") refl in (
      ((λ is. absurd (other is)), λ isnt. ((λ is. refl), λ isnt. absurd (isnt refl))),
      (λ found. differ (codes "X") (codes "x") refl (ap (λ (p : List ℕ × Bool). p.0) (same_Some _ _ ((found.1 other).0 refl)))),
      (λ found. none-some _ ((found.1 other).0 refl)),
      ((λ is. absurd (absent is)), λ isnt. refl),
      λ found. none-some _ (sym (found.1 absent)),
    )

-- ---- names, constants and errors

-- A name that ignores ASCII case is a text in any case, whichever of them has capitals; any other name is only its bytes.
names :
    NameIs (codes "text") true (codes "Text") × NameIs (codes "Text") true (codes "text")
    × ¬ (NameIs (codes "text") true (codes "texts")) × NameIs (codes "Abc") false (codes "Abc")
    × ¬ (NameIs (codes "Abc") false (codes "abc"))
names = (refl, refl, differ (codes "text") (codes "texts") refl, refl, differ (codes "Abc") (codes "abc") refl)

-- Of the 38 constant names the first, one between, and the last.
constant_names : (take 1 name_table ≡ codes "*" ∷ []) × (take 1 (drop 35 name_table) ≡ codes "charset" ∷ [])
    × (drop 37 name_table ≡ codes "utf-8" ∷ [])
constant_names = (refl, refl, refl)

-- Three of the constant media types.
constant_texts : (atom_text STAR_STAR ≡ codes "*/*") × (atom_text TEXT_PLAIN_UTF_8 ≡ codes "text/plain; charset=utf-8")
    × (atom_text IMAGE_SVG ≡ codes "image/svg+xml")
constant_texts = (refl, refl, refl)

-- What callers see of a name and of a parameter.
views : (name value : Name) → (name_text name ≡ name.text.now) × (name_seen name ≡ (name.text.now, name.ignores_case))
    × ((item_seen (name, value)).name ≡ name.text.now) × ((item_seen (name, value)).name_ignores_case ≡ name.ignores_case)
    × ((item_seen (name, value)).value ≡ value.text.now) × ((item_seen (name, value)).value_ignores_case ≡ value.ignores_case)
views name value = (refl, refl, refl, refl, refl, refl)

-- A byte in uppercase hexadecimal without leading zeros, and its position.
printed_tokens : (fault_text (InvalidToken 10 11) ≡ codes "an invalid token was encountered, B at position 10")
    × (fault_text (InvalidToken 0 250) ≡ codes "an invalid token was encountered, FA at position 0")
unfolding digits
printed_tokens = (refl, refl)

-- What a fault prints, with a byte in uppercase hexadecimal without leading zeros.
printed_faults :
    map fault_text (MissingSlash ∷ MissingSubtype ∷ MissingEqual ∷ MissingValue ∷ MissingQuote ∷ InvalidToken 10 11
    ∷ NoMemory ∷ []) ≡ codes "a slash (/) was missing between the type and subtype"
    ∷ codes "a subtype was missing behind the slash (/)" ∷ codes "an equals sign (=) was missing between a parameter and its value"
    ∷ codes "a value was missing behind the equals sign (=)" ∷ codes "a quote (\") was missing from a parameter value"
    ∷ codes "an invalid token was encountered, B at position 10" ∷ codes "memory ran out" ∷ []
unfolding digits
printed_faults = refl

-- What the error of reading prints.
printed_error : error_text (InvalidToken 5 59) ≡ codes "mime parse error: an invalid token was encountered, 3B at position 5"
unfolding digits
printed_error = refl
