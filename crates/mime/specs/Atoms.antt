-- The constant media types: the text of each.
use Rattle.std.specs.Prelude.{ℕ, List, codes}
use Rattle.mime.specs.declared.atoms.Atom.{Atom}
use Rattle.mime.specs.declared.atoms.Atom.TheVariants.{STAR_STAR, TEXT_STAR, TEXT_PLAIN, TEXT_PLAIN_UTF_8, TEXT_HTML, TEXT_HTML_UTF_8}
use Rattle.mime.specs.declared.atoms.Atom.TheVariants.{TEXT_CSS, TEXT_CSS_UTF_8, TEXT_JAVASCRIPT, TEXT_XML, TEXT_EVENT_STREAM, TEXT_CSV}
use Rattle.mime.specs.declared.atoms.Atom.TheVariants.{TEXT_CSV_UTF_8, TEXT_TAB_SEPARATED_VALUES, TEXT_TAB_SEPARATED_VALUES_UTF_8}
use Rattle.mime.specs.declared.atoms.Atom.TheVariants.{TEXT_VCARD, IMAGE_STAR, IMAGE_JPEG, IMAGE_GIF, IMAGE_PNG, IMAGE_BMP, IMAGE_SVG}
use Rattle.mime.specs.declared.atoms.Atom.TheVariants.{FONT_WOFF, FONT_WOFF2, APPLICATION_JSON, APPLICATION_JAVASCRIPT}
use Rattle.mime.specs.declared.atoms.Atom.TheVariants.{APPLICATION_JAVASCRIPT_UTF_8, APPLICATION_WWW_FORM_URLENCODED}
use Rattle.mime.specs.declared.atoms.Atom.TheVariants.{APPLICATION_OCTET_STREAM, APPLICATION_MSGPACK, APPLICATION_PDF, MULTIPART_FORM_DATA}

-- the text of a constant
abbrev pub atom_text : Atom → List ℕ
atom_text STAR_STAR = codes "*/*"
atom_text TEXT_STAR = codes "text/*"
atom_text TEXT_PLAIN = codes "text/plain"
atom_text TEXT_PLAIN_UTF_8 = codes "text/plain; charset=utf-8"
atom_text TEXT_HTML = codes "text/html"
atom_text TEXT_HTML_UTF_8 = codes "text/html; charset=utf-8"
atom_text TEXT_CSS = codes "text/css"
atom_text TEXT_CSS_UTF_8 = codes "text/css; charset=utf-8"
atom_text TEXT_JAVASCRIPT = codes "text/javascript"
atom_text TEXT_XML = codes "text/xml"
atom_text TEXT_EVENT_STREAM = codes "text/event-stream"
atom_text TEXT_CSV = codes "text/csv"
atom_text TEXT_CSV_UTF_8 = codes "text/csv; charset=utf-8"
atom_text TEXT_TAB_SEPARATED_VALUES = codes "text/tab-separated-values"
atom_text TEXT_TAB_SEPARATED_VALUES_UTF_8 = codes "text/tab-separated-values; charset=utf-8"
atom_text TEXT_VCARD = codes "text/vcard"
atom_text IMAGE_STAR = codes "image/*"
atom_text IMAGE_JPEG = codes "image/jpeg"
atom_text IMAGE_GIF = codes "image/gif"
atom_text IMAGE_PNG = codes "image/png"
atom_text IMAGE_BMP = codes "image/bmp"
atom_text IMAGE_SVG = codes "image/svg+xml"
atom_text FONT_WOFF = codes "font/woff"
atom_text FONT_WOFF2 = codes "font/woff2"
atom_text APPLICATION_JSON = codes "application/json"
atom_text APPLICATION_JAVASCRIPT = codes "application/javascript"
atom_text APPLICATION_JAVASCRIPT_UTF_8 = codes "application/javascript; charset=utf-8"
atom_text APPLICATION_WWW_FORM_URLENCODED = codes "application/x-www-form-urlencoded"
atom_text APPLICATION_OCTET_STREAM = codes "application/octet-stream"
atom_text APPLICATION_MSGPACK = codes "application/msgpack"
atom_text APPLICATION_PDF = codes "application/pdf"
atom_text MULTIPART_FORM_DATA = codes "multipart/form-data"
