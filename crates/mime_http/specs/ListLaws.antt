-- The laws of a header whose lines are lists.
use Rattle.std.specs.Prelude.{◌≡◌, ◌≢◌, ℕ, List, [], ◌∷◌, ◌++◌, map, ⊤}
use Rattle.std.specs.Str.{IsUtf8}
use Rattle.mime.specs.{Grammar.AreSpaces, Values.MediaType, Laws.ExactlyOne}
use Rattle.mime_http.specs.HttpMediaType.{HttpReads, IsHttpMediaType}
use Rattle.mime_http.specs.HttpList.{lines_or_any, AreBetweenCommas, trimmed, AreSorted, IsPiece, BeginsPiece, Header, IsHeader, IsFirstBad}

-- Lines have exactly one cut into pieces.
abbrev pub OneCutOfLines : Type 0
OneCutOfLines = (lines : List (List ℕ)) → ExactlyOne (AreBetweenCommas IsPiece BeginsPiece lines)

-- texts that are elements, each a media range with its weight, or only white space
pub data AreElements : List (List ℕ) → List MediaType → Type 0 where
  no_element : AreElements [] []
  nothing : (text : List ℕ) (texts : List (List ℕ)) (media : List MediaType) → AreSpaces text → AreElements texts media
      → AreElements (text ∷ texts) media
  element : (text : List ℕ) (range : MediaType) (texts : List (List ℕ)) (media : List MediaType) → IsUtf8 text → HttpReads text range
      → AreElements texts media → AreElements (text ∷ texts) (range ∷ media)

-- [ element ] *( OWS "," OWS [ element ] ) on each line, in UTF-8, and the elements (5.6.1.2)
pub record AreHttpLists (lines : List (List ℕ)) (media : List MediaType) : Type 0 where
  pub texts : List (List ℕ)
  pub between : AreBetweenCommas (λ text. ⊤) (λ text. ⊤) lines texts
  pub elements : AreElements texts media

-- the same media types in the same order; their kept texts may differ
abbrev pub AreSame : List MediaType → List MediaType → Type 0
AreSame all others = let bare : MediaType → MediaType = λ media. record media { kept = [] } in map bare all ≡ map bare others

-- Lists that HTTP allows are read as their elements, and no entry is bad.
abbrev pub HttpListsAreRead : Type 0
HttpListsAreRead = (lines : List (List ℕ)) (media : List MediaType) → AreHttpLists (lines_or_any lines) media
    → (ranges : List MediaType) × AreSame ranges media × IsHeader lines (record { ranges = ranges; bad = [] })

-- Lines without a bad entry are lists that HTTP allows.
abbrev pub ReadAreHttpLists : Type 0
ReadAreHttpLists = (lines : List (List ℕ)) (header : Header) → IsHeader lines header → header.bad ≡ []
    → AreHttpLists (lines_or_any lines) header.ranges

-- Lines have one list of ranges, and one of bad entries.
abbrev pub OneHeader : Type 0
OneHeader = (lines : List (List ℕ)) (header other : Header) → IsHeader lines header → IsHeader lines other → header ≡ other

-- Lines have a first bad entry exactly if an entry is bad, and only one.
abbrev pub OneFirstBad : Type 0
OneFirstBad = (lines : List (List ℕ)) (header : Header) → IsHeader lines header → (header.bad ≢ [] → (at : ℕ) × IsFirstBad lines at)
    × ((at : ℕ) → IsFirstBad lines at → (header.bad ≢ []) × ((other : ℕ) → IsFirstBad lines other → other ≡ at))

-- A bad entry changes no other entry, wherever it is: lines with it, and lines without it, have the same ranges, so that each offer weighs
-- the same, and the same bad entries before it and after it.
abbrev pub BadIsAlone : Type 0
BadIsAlone = (lines others before after : List (List ℕ)) (entry : List ℕ) (ranges more : List MediaType) (bad worse : List (List ℕ))
    → AreSorted before ranges bad → AreSorted after more worse → ¬ (AreSpaces entry) → ¬ (IsUtf8 entry × IsHttpMediaType entry)
    → AreBetweenCommas IsPiece BeginsPiece (lines_or_any lines) (before ++ (entry ∷ after))
    → AreBetweenCommas IsPiece BeginsPiece (lines_or_any others) (before ++ after)
    → IsHeader lines (record { ranges = ranges ++ more; bad = bad ++ (trimmed entry ∷ worse) })
    × IsHeader others (record { ranges = ranges ++ more; bad = bad ++ worse })
