-- What is left of an essence is the type exactly if the essence is the type and the end.
use Rattle.std.proofs.Common.{rules}
use Rattle.mime_http.proofs.Common.{Bor, List, MatchOption, None, Option, Some, ap, append_cancel_right, bytes_eq, bytes_eq-Decides, codes}
use Rattle.mime_http.proofs.Common.{option_eq, refl, ℕ, ◌++◌, ◌∙◌, ◌≡◌}
use Rattle.std.specs.Str.Pattern.{FindsTextSuffix, StripsSuffix}
use Rattle.mime_http.proofs.range.is_all_of.Goals as goal

-- The test of what is left is the test of the whole.
is_whole : (text end other : List ℕ) (other-borrowed : Bor (List ℕ)) (rest : Option (Bor (List ℕ))) → other-borrowed.now ≡ other
    → MatchOption rest (FindsTextSuffix end text None) (λ x. StripsSuffix (FindsTextSuffix end) text x.now)
    → option_eq (λ a b. bytes_eq a.now b.now) rest (Some other-borrowed) ≡ bytes_eq text (other ++ end)
is_whole text end other b None same none = search (bytes_eq-Decides, rules)
is_whole text end other b (Some rest) same (n, found, is, long) = search (bytes_eq-Decides, append_cancel_right, rules)

pub returns : goal.returns
returns c = c.eq.ensures ∙ is_whole _ _ _ _ _ refl c.strip_suffix.ensures.cases
    ∙ ap (λ text. bytes_eq text (c.args.type_.now ++ codes "/*")) c.essence_str.ensures
