-- Each part is added after the one before it.
use Rattle.mime_headers.proofs.Common.{BoundaryIs, append_assoc, option_map, rules, suffix_of, ◌≡◌}
use Rattle.mime_headers.proofs.report.push_media.Goals as goal

pub returns : goal.returns
returns c =
    let media = c.args.mime.now.media in
    let kept : c.as_bytes.result.now ≡ media.kept = search rules in
    let essence : c.as_bytes-2.result.now ≡ media.essence = search rules in
    let suffix : option_map (λ bytes. bytes.now) c.map-suffix.result ≡ suffix_of media = search rules in
    let first = simp (c.in_ok-push_if-2.ensures, c.in_ok-push_if.ensures, kept, essence) at c.in_ok-push_if-3.ensures in
    let bound : BoundaryIs media (option_map (λ bytes. bytes.now) c.as_deref.result) = search rules in
    (_, bound, simp (c.in_ok-push_if-4.ensures, c.in_ok-push_params.ensures, first, suffix, append_assoc))
