-- Quoted content, byte by byte: which byte may come next, and where the content ends.
use Rattle.std.specs.Prelude.{ℕ, ◌+◌, Bool, true, false, IsTrue, List, [], ◌∷◌, take, drop, ◌==◌, ◌&&◌, not}
use Rattle.mime.specs.Bytes.{is_quoted_byte, quote_byte}
pub use Rattle.mime_search.specs.Quoted.{awaits_next, len_from}

-- whether the value takes a byte, an awaited one (`true`) or another
abbrev pub takes : Bool → ℕ → Bool
takes true b = is_quoted_byte b
takes false b = is_quoted_byte b && not (b == quote_byte)

-- whether it takes byte after byte
abbrev pub takes_all : Bool → List ℕ → Bool
takes_all awaiting [] = true
takes_all awaiting (b ∷ bytes) = takes awaiting b && takes_all (awaits_next awaiting b) bytes

-- whether a byte is awaited after them
abbrev pub awaits_after : Bool → List ℕ → Bool
awaits_after awaiting [] = awaiting
awaits_after awaiting (b ∷ bytes) = awaits_after (awaits_next awaiting b) bytes

-- what may follow an opening quote
abbrev pub IsOpenContent : List ℕ → Type 0
IsOpenContent content = IsTrue (takes_all false content)

-- whether such content takes one more byte; a quote that it doesn't take closes it
abbrev pub continues : List ℕ → ℕ → Bool
continues content b = takes (awaits_after false content) b

-- the number of bytes before the closing quote, or of all bytes if there is none
abbrev pub content_len : List ℕ → ℕ
content_len text = len_from false text

-- the content that a text begins with, and the text after its closing quote
abbrev pub content_of : List ℕ → List ℕ
content_of text = take (content_len text) text

abbrev pub after_content : List ℕ → List ℕ
after_content text = drop (content_len text + 1) text
