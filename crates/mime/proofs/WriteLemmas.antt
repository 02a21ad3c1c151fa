-- What is written call by call.
use Rattle.std.proofs.Common.{◌≡◌, List, [], ◌∷◌, ◌++◌, ℕ, sym, ap, ◌∙◌, subst, append-nil, append_assoc}
use Rattle.std.specs.List.{FoldsTo, concat}
use Rattle.std.specs.Fmt.InlineText.{inline_text, IsIntact, AppendsIfIntact}
use Rattle.std.specs.declared.fmt.InlineText.{InlineText}

-- Calls after calls are all of these calls, in order.
pub calls_then : {W : Type 0} (took : W → List ℕ → W → Type 0) (w : W) (xs : List (List ℕ)) (v : W) (ys : List (List ℕ)) (u : W)
    → FoldsTo took w xs v → FoldsTo took v ys u → FoldsTo took w (xs ++ ys) u
calls_then took w [] v ys u p q = subst (λ x. FoldsTo took x ys u) (sym p) q
calls_then took w (x ∷ xs) v ys u p q = (p.0, p.1, calls_then took p.0 xs v ys u p.2 q)

-- What calls wrote is appended.
pub appended : {n : ℕ} (text new : InlineText n) (parts : List (List ℕ)) → FoldsTo AppendsIfIntact text parts new → IsIntact text
    → inline_text new ≡ inline_text text ++ concat parts
appended text new [] calls intact = ap inline_text (sym calls) ∙ sym (append-nil (inline_text text))
appended text new (part ∷ parts) (next, takes, calls) intact =
    let one = takes intact in
    appended next new parts calls one.0 ∙ ap (λ t. t ++ concat parts) one.1 ∙ append_assoc (inline_text text) part (concat parts)
