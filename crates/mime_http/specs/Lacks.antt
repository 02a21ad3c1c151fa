-- Which parameter keeps a range from deciding the weight of an offer, and whether a weight is written in quotes (RFC 9110, 12.4.2 and
-- 12.5.1).
use Rattle.std.specs.Prelude.{ℕ, Bool, true, false, List, [], ◌∷◌, codes, length, take, Option, Some, None, find, nat_lt, not}
use Rattle.std.specs.Prelude.{option_and_then, option_map, ◌&&◌, ◌==◌, ◌||◌, if◌then◌else◌}
use Rattle.std.specs.{Str.str_eq_ignore_ascii_case}
use Rattle.mime.specs.{Bytes.backslash_byte, Bytes.quote_byte, Bytes.semicolon_byte, Values.MediaType}
use Rattle.mime_http.specs.{HttpList.trim_start, Ranges.demanded, Ranges.has, Ranges.named_parts}

-- how specific a range is that names an offer's essence: how many of its parts it names, and how many parameters it demands
abbrev pub specificity : MediaType → MediaType → Option (ℕ × ℕ)
specificity offer range = option_map (λ named. (named, length (demanded range.pairs))) (named_parts range offer)

-- whether one is more specific than another, if there is another
abbrev pub is_above : Option (ℕ × ℕ) → Option (ℕ × ℕ) → Bool
is_above None other = false
is_above (Some one) None = true
is_above (Some one) (Some other) = nat_lt other.0 one.0 || (one.0 == other.0 && nat_lt other.1 one.1)

-- the first parameter that a range demands and an offer lacks, if the range is more specific than the one that decides
abbrev pub lacked : MediaType → Option MediaType → MediaType → Option (List ℕ × List ℕ)
lacked range decider offer = if is_above (specificity offer range) (option_and_then (specificity offer) decider)
    then find (λ pair. not (has offer pair)) (demanded range.pairs) else None

-- whether bytes begin with a label, ignoring ASCII case
abbrev pub begins : List ℕ → List ℕ → Bool
begins label bytes = str_eq_ignore_ascii_case (take (length label) bytes) label

-- Whether the first `q` of an entry is written in quotes, where RFC 9110, 12.4.2, has none. `inside` says whether the bytes are in a quoted
-- string, and `paired` whether a backslash is before them, which pairs their first.
abbrev pub is_quoted : Bool → Bool → List ℕ → Bool
is_quoted inside paired [] = false
is_quoted inside paired (b ∷ bytes) =
    if not (inside || paired) && (b == semicolon_byte && begins (codes "q=") (trim_start bytes))
    then begins (codes "q=\"") (trim_start bytes)
    else is_quoted (if b == quote_byte && not paired then not inside else inside) (b == backslash_byte && not paired) bytes
