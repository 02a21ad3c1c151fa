-- `text/html` has one reading, so what is printed can be computed.
use Rattle.std.proofs.Common.{◌≡◌, ◌∙◌, ℕ, List, refl, ap, codes}
use Rattle.std.proofs.{lemmas.Option.IfSome_then, lemmas.Result.IfOk-weaker}
use Rattle.mime.specs.Bytes.{is_token_byte}
use Rattle.mime.specs.Grammar.{SyntaxTree, no_list}
use Rattle.mime.specs.Values.{MediaType, OwnedMedia, Reads, lowered, value_of}
use Rattle.mime_http.specs.Written.{with_pair}
use Rattle.mime_examples.proofs.reply.page_in.Goals as goal

-- This is the tree of `text/html`.
html : SyntaxTree
html = record { top = codes "text"; sub = codes "html"; tail = no_list }

-- The text `text/html` is read as the value of this tree.
html_is_read : Reads (codes "text/html") (value_of html)
unfolding html is_token_byte
html_is_read = record { tree = html; well_formed = (refl, refl, tt); spelled = refl; valued = refl }

-- This is how HTML in a charset is printed.
abbrev printed : MediaType → List ℕ → List ℕ
printed media charset = (with_pair media (codes "charset") (lowered charset)).kept

-- HTML in UTF-8 is printed with this charset.
in_utf8 : printed (value_of html) (codes "utf-8") ≡ codes "text/html; charset=utf-8"
unfolding html is_token_byte
in_utf8 = refl

pub returns-clause-printed : goal.returns-clause-printed
returns-clause-printed c = λ utf8.
    let charset = c.args.charset.now in
    let made = with_pair c.mime.result.media (codes "charset") (lowered charset) in
    let is = c.one_reading.ensures _ _ _ c.mime.ensures.reads html_is_read in
    let so = ap (λ (media : MediaType). printed media charset) is ∙ (ap (printed (value_of html)) utf8 ∙ in_utf8) in
    IfOk-weaker _ _ _
    (λ answer is_made. IfSome_then answer {P = λ (page : OwnedMedia). page.media ≡ made} is_made
    (λ page same. ap (λ (media : MediaType). media.kept) same ∙ so)) c.with_charset-2.ensures.made
