-- Private: a weight, read digit by digit.
use Rattle.std.specs.Prelude.{◌≡◌, ℕ, ◌+◌, ◌*◌, ◌-◌, ◌/◌, List, [], ◌∷◌, ◌++◌, Bool, ◌||◌, if◌then◌else◌, ◌==◌, codes}
use Rattle.std.specs.Char.{is_ascii_digit}
use Rattle.mime.specs.Grammar.{AreSpaces, IsToken}
use Rattle.mime_http.specs.Weight.{thousandths_of}

-- what the digits that bytes begin with are worth, the first of them this unit, and each next a tenth of the one before
abbrev pub worth : ℕ → List ℕ → ℕ
worth unit [] = 0
worth unit (b ∷ bytes) = if is_ascii_digit b then unit * (b - 48) + worth (unit / 10) bytes else 0

-- the number that bytes begin with, in thousandths: zeros are passed, another digit is 1 at least
abbrev pub read_number : List ℕ → ℕ
read_number [] = 0
read_number (b ∷ bytes) = if b == 48 then read_number bytes else if is_ascii_digit b then 1000 else if b == 46 then worth 100 bytes else 0

-- whether a byte may stand in a number
abbrev pub is_digit_or_dot : ℕ → Bool
is_digit_or_dot b = is_ascii_digit b || b == 46

-- parameters begin with a weight: this stands after the name `q` and its equals sign
abbrev pub BeginsWithWeight : List ℕ → List ℕ → Type 0
BeginsWithWeight parameters rest = (spaces : List ℕ) × AreSpaces spaces × (parameters ≡ codes ";" ++ (spaces ++ (codes "q=" ++ rest)))

-- parameters are a weight alone, which is written as a token, and is this in thousandths
abbrev pub IsLoneWeight : List ℕ → ℕ → Type 0
IsLoneWeight parameters thousandths =
    (weight : List ℕ) × BeginsWithWeight parameters weight × IsToken weight × (thousandths ≡ thousandths_of weight)
