-- The bytes after the common ones decide whether all may occur.
use Rattle.std.proofs.Common.{rules, ◌≡◌, ◌∙◌}
use Rattle.mime_http.proofs.Common.{is_bchar, list_all}
use Rattle.mime_http.proofs.ReadAt.{rest_decides}
use Rattle.mime_http.proofs.multipart.is_boundary.Goals as goal

pub returns-in-Some : goal.returns-in-Some
returns-in-Some c =
    let is : c.are_boundary_bytes.result ≡ list_all is_bchar c.args.bytes.now =
    c.are_boundary_bytes.ensures ∙ rest_decides c.args.bytes.now c.first_stop.result c.first_stop.ensures.end in
    rw is (search rules)
