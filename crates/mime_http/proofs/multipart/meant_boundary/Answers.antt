-- A boundary means itself; what is too long means none, and what has no backslash means itself.
use Rattle.mime_http.proofs.Common.{contains_char, rules}
use Rattle.mime_http.proofs.Contents.{length-unescaped, unescaped_same}
use Rattle.mime_http.proofs.multipart.meant_boundary.Goals as goal

pub returns-then-bytes : goal.returns-then-bytes
returns-then-bytes c = search (length-unescaped, contains_char, unescaped_same, rules)
