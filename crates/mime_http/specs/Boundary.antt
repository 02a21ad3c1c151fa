-- The boundary between the parts of a multipart body (RFC 2046, 5.1.1).
use Rattle.std.specs.Prelude.{◌≡◌, ◌≢◌, ◌≤◌, ◌-◌, ℕ, Bool, List, Some, ◌||◌, ◌==◌, IsTrue, IsSomeAnd, codes, length, option_map, slice_get}
use Rattle.std.specs.{List.list_all, List.list_any, Char.is_ascii_alphanumeric}
use Rattle.mime.specs.{Bytes.space_byte, Values.MediaType, Values.type_of}
use Rattle.mime_http.specs.{Ranges.first_value, Unescaped.unescaped}

-- bchars = DIGIT / ALPHA / "'" / "(" / ")" / "+" / "_" / "," / "-" / "." / "/" / ":" / "=" / "?" / SP
abbrev pub is_bchar : ℕ → Bool
is_bchar b = is_ascii_alphanumeric b || list_any (λ mark. mark == b) (codes "'()+_,-./:=? ")

-- 1 to 70 of them, the last of which isn't a space
pub record IsBoundary (bytes : List ℕ) : Type 0 where
  pub most : length bytes ≤ 70
  pub all : IsTrue (list_all is_bchar bytes)
  pub end : IsSomeAnd (slice_get bytes (length bytes - 1)) (λ last. last ≢ space_byte)

-- the boundary of a media type: it is of the type `multipart`, and its first `boundary` means these bytes, which are a boundary
pub record IsBoundaryOf (media : MediaType) (bytes : List ℕ) : Type 0 where
  pub multipart : type_of media ≡ codes "multipart"
  pub found : option_map unescaped (first_value (codes "boundary") media.pairs) ≡ Some bytes
  pub is : IsBoundary bytes
