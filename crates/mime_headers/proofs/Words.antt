-- The words of a command line, as the code reads them one by one.
pub use Rattle.mime_headers.proofs.Common.{AreOffers, FieldError, Global, List, MediaType, Result, String, a_word, bad_word, map}
pub use Rattle.mime_headers.proofs.Common.{map-append, no_word, string_bytes, take, ℕ, ◌+◌, ◌∷◌, ◌≡◌, rules}

-- The next word is the first of those that are left.
pub next_word : {offers : List MediaType} {all : Result (List MediaType) (String Global × FieldError)} (n m : ℕ) (word : String Global)
    (words rest : List (String Global)) → m + 1 ≡ n → words ≡ word ∷ rest
    → AreOffers (string_bytes word ∷ map string_bytes (take m rest)) offers all → AreOffers (map string_bytes (take n words)) offers all
next_word n m word words rest len is are = search rules

-- The answer to the words that are left is found by these rules.
pub ruleset reading = (next_word, no_word, a_word, bad_word, map-append)
