-- How many bytes a media type with a parameter is, and that what is written comes back.
use Rattle.std.proofs.Common.{◌≡◌, ℕ, ◌+◌, ◌*◌, ◌≤◌, true, List, [], ◌∷◌, length, ap, arith, length-append}
use Rattle.std.specs.Prelude.{not, bytes_eq}
use Rattle.std.proofs.{lemmas.Bool.Decides.nat_tests, lemmas.List.Concat.flat_map-append}
use Rattle.mime.specs.{Values.MediaType, Values.Reads, Values.lowered, Values.lowered_value}
use Rattle.mime.proofs.HandedOut.{length-lowered, lowered_value-either, is_other, list_all-wider}
use Rattle.mime_http.specs.Boundary.{is_bchar, IsBoundary}
use Rattle.mime_http.specs.HttpMediaType.{HttpReads}
use Rattle.mime_http.specs.Written.{escaped, text_of_pair, others}
use Rattle.mime_c.specs.{Strings.ComeBack, ParameterAnswers.room_with, ParameterAnswers.set_parameter}
use Rattle.mime_c.proofs.{HeaderRoom.anew_fits, HeaderRoom.length-pair, HeaderRoom.sizes_of, NoZero.come_back, NoZero.no_zero-read}

-- ---- a media type with a parameter

-- A value is written with at most twice as many bytes as it means.
length-escaped : (bytes : List ℕ) → length (escaped bytes) ≤ 2 * length bytes
length-escaped [] = omega arith
length-escaped (b ∷ bytes) = grind (arith, length-escaped bytes)

-- A media type with a parameter fits into the room that is asked for.
pub set_fits : (text name value : List ℕ) (media : MediaType) → HttpReads text media
    → length (set_parameter media name value).kept + 1 ≤ room_with text name value
set_fits text name value media reads =
    let made : List ℕ × List ℕ = (lowered name, lowered_value name (escaped value)) in
    let kept = others (lowered name) media.pairs in
    let content : length (lowered_value name (escaped value)) ≤ 2 * length value =
    lowered_value-either (λ it. length it ≤ 2 * length value) name (escaped value) (length-escaped value)
    (omega (arith, length-lowered (escaped value), length-escaped value)) in
    let others = anew_fits text media reads (λ pair. not (bytes_eq (lowered pair.0) (lowered (lowered name)))) in
    let all = ap length (flat_map-append text_of_pair kept (made ∷ [])) in
    let size = length-pair (lowered name) (lowered_value name (escaped value)) in
    let last = length-append (text_of_pair made) [] in
    omega (arith, (sizes_of text media reads).0, others, content, size, all, last, length-lowered name, length-append {A = ℕ})

-- A kept text that is read comes back.
pub set_comes_back : (media : MediaType) → Reads media.kept media → ComeBack (media.kept ∷ [])
set_comes_back media reads = come_back (media.kept ∷ []) (no_zero-read media.kept media reads, tt)

-- ---- a boundary

-- A byte of a boundary isn't 0.
bchar-other : (b : ℕ) → is_bchar b ≡ true → is_other 0 b ≡ true
bchar-other b is = grind (arith, nat_tests)

-- A boundary comes back.
pub boundary_comes_back : (boundary : List ℕ) → IsBoundary boundary → ComeBack (boundary ∷ [])
boundary_comes_back boundary is = come_back (boundary ∷ []) (list_all-wider is_bchar (is_other 0) bchar-other boundary is.all, tt)
