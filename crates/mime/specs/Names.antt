-- Names, each a text with a flag that says whether it ignores ASCII case: when a name equals a text, and the constants.
use Rattle.std.specs.Prelude.{◌≡◌, ℕ, Bool, true, false, List, [], ◌∷◌, codes}
use Rattle.mime.specs.Values.{lowered}

-- a name is equal to a text: ignoring ASCII case if it does so (`true`), else byte for byte
abbrev pub NameIs : List ℕ → Bool → List ℕ → Type 0
NameIs name true text = lowered name ≡ lowered text
NameIs name false text = name ≡ text

-- the texts of the constants, in the order of `name_constants`; each ignores case
abbrev pub name_table : List (List ℕ)
name_table = codes "*" ∷ codes "text" ∷ codes "image" ∷ codes "audio" ∷ codes "video" ∷ codes "application" ∷ codes "multipart"
    ∷ codes "message" ∷ codes "model" ∷ codes "font" ∷ codes "plain" ∷ codes "html" ∷ codes "xml" ∷ codes "javascript" ∷ codes "css"
    ∷ codes "csv" ∷ codes "event-stream" ∷ codes "vcard" ∷ codes "json" ∷ codes "x-www-form-urlencoded" ∷ codes "msgpack"
    ∷ codes "octet-stream" ∷ codes "pdf" ∷ codes "woff" ∷ codes "woff2" ∷ codes "form-data" ∷ codes "bmp" ∷ codes "gif" ∷ codes "jpeg"
    ∷ codes "png" ∷ codes "svg" ∷ codes "basic" ∷ codes "mpeg" ∷ codes "mp4" ∷ codes "ogg" ∷ codes "charset" ∷ codes "boundary"
    ∷ codes "utf-8" ∷ []
