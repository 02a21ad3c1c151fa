-- Which offers the arguments name, and what an error of a run prints.
use Rattle.std.specs.Prelude.{◌≢◌, ℕ, List, [], ◌∷◌, ◌++◌, Some, None, Result, Ok, Err, String, string_bytes, codes}
use Rattle.std.specs.{Fmt.decimal, Global.Global}
use Rattle.mime.specs.Values.{MediaType}
use Rattle.mime_http.specs.{HttpFaults.HttpExplains, declared.value.FieldError.FieldError, declared.value.FieldError.TheVariants.NoMemory}
use Rattle.mime_io.specs.Stops.{stop_text}
use Rattle.mime_headers.specs.{Field.printed_name, Report.HasReading}
use Rattle.mime_headers.specs.declared.error.HeadError.{HeadError}

-- The result of reading words after some offers. If each word is read as an offer, the result has all offers. Otherwise, it has the first
-- word that isn't read, and an error, which explains why that word is rejected or is `NoMemory`.
pub data AreOffers : List (List ℕ) → List MediaType → Result (List MediaType) (String Global × FieldError) → Type 0 where
  no_word : {offers : List MediaType} → AreOffers [] offers (Ok offers)
  a_word : {word : List ℕ} {offer : MediaType} {words : List (List ℕ)} {offers : List MediaType}
      {all : Result (List MediaType) (String Global × FieldError)}
      → HasReading word (Ok offer) → AreOffers words (offers ++ (offer ∷ [])) all → AreOffers (word ∷ words) offers all
  bad_word : {words : List (List ℕ)} {offers : List MediaType} (word : String Global) (error : FieldError)
      → (error ≢ NoMemory → HttpExplains (string_bytes word) error) → AreOffers (string_bytes word ∷ words) offers (Err (word, error))

-- what an error prints
abbrev pub head_error_text : HeadError → List ℕ
head_error_text (HeadError.Run error) = stop_text error
head_error_text (HeadError.NoHead None) = codes "no head"
head_error_text (HeadError.NoHead (Some (number, name))) =
    codes "no head, but line " ++ (decimal number ++ (codes " has " ++ printed_name name))
