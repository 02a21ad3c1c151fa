-- What is found is what was written, which means the name.
use Rattle.std.proofs.Common.{rules, ◌≡◌, ◌∙◌, ◌++◌, ◌∷◌, [], List, ℕ, Bool, Some, unwrap_or, ap, subst, codes}
use Rattle.std.specs.{Vec.vec_items, Option.option_map}
use Rattle.std.proofs.{lemmas.Result.IfOk-weaker, lemmas.Option.IfSome_then}
use Rattle.mime.specs.{Names.NameIs, Items.items_of, Items.IsFirstAccepted}
use Rattle.mime_http.specs.{Unescaped.unescaped, Written.escaped, Written.with_pair, Written.others}
use Rattle.mime_examples.proofs.Found.{found_last}
use Rattle.mime_examples.proofs.file_name.written_and_read.Goals as goal

pub returns : goal.returns
returns c =
    let name = c.args.name.now in
    let media : c.in-Some.named.media ≡ with_pair c.args.mime.now.media (codes "name") (escaped name) = search rules in
    let pairs : c.in-Some.named.media.pairs ≡ others (codes "name") c.args.mime.now.media.pairs ++ ((codes "name", escaped name) ∷ []) =
    ap (λ m. m.pairs) media in
    let meant : unescaped (escaped name) ≡ name = c.written_is_meant.ensures (codes "name") name in
    IfOk-weaker _ _ _
    (λ answer is. IfSome_then answer {P = λ back. (value : List ℕ) × (flag : Bool)
    × IsFirstAccepted (λ name flag. NameIs name flag (codes "name")) (items_of c.in-Some.named.media.pairs) (Some (value, flag))
    × (vec_items back ≡ unescaped value)} is
    (λ back is.
    let found = found_last (codes "name") (escaped name) c.args.mime.now.media.pairs (Some (is.0, is.1))
    (subst (λ it. IsFirstAccepted (λ name flag. NameIs name flag (codes "name")) (items_of it) (Some (is.0, is.1))) pairs is.2) in
    is.3 ∙ ap (λ o. unescaped (unwrap_or (option_map (λ it. it.0) o) [])) found ∙ meant))
    c.file_name.ensures
