-- White space is passed over, and then the line ends, or goes on with another byte.
use Rattle.std.proofs.Common.{rules, ◌≡◌, ◌≢◌, ◌↔◌, ◌⊎◌, ⊎_elim, inl, inr, ◌∷◌, ℕ, List, Bor, Option, Some, None, IsTrue, refl, sym, subst}
use Rattle.std.specs.Prelude.{MatchOption}
use Rattle.std.proofs.lemmas.Bool.{false≢true}
use Rattle.mime.specs.Grammar.{is_space}
use Rattle.mime_examples.specs.Multipart.{Opens, feed, return_feed, space}
use Rattle.mime_examples.proofs.multipart.after_line.Goals as goal

-- The line goes on after white space in it.
after_white : (b : ℕ) (front rest text : List ℕ) → IsTrue (is_space b) → front ≡ b ∷ rest → Opens front text → Opens rest text
after_white b front rest text white is (feed _) = search (false≢true, rules)
after_white b front rest text white is (return_feed _) = search (false≢true, rules)
after_white b front rest text white is (space c after _ _ more) = search rules

-- Without white space it ends at once.
ends_at_once : (left text : List ℕ) → ((b : ℕ) (rest : List ℕ) → IsTrue (is_space b) → left ≢ b ∷ rest) → Opens left text
    → (left ≡ 10 ∷ text) ⊎ (left ≡ 13 ∷ 10 ∷ text)
ends_at_once left text none (feed _) = inl refl
ends_at_once left text none (return_feed _) = inr refl
ends_at_once left text none (space b after _ white more) = absurd (none b after white refl)

-- The end of a line ends it.
end_opens : (left text : List ℕ) → (left ≡ 10 ∷ text) ⊎ (left ≡ 13 ∷ 10 ∷ text) → Opens left text
end_opens left text (inl is) = subst (λ it. Opens it text) (sym is) (feed text)
end_opens left text (inr is) = subst (λ it. Opens it text) (sym is) (return_feed text)

-- Where no white space is left, the line's end is found, or there is none.
found_end : (left front : List ℕ) (found : Option (Bor (List ℕ))) → ((b : ℕ) (rest : List ℕ) → IsTrue (is_space b) → left ≢ b ∷ rest)
    → ((text : List ℕ) → Opens left text ↔ Opens front text)
    → MatchOption found ((text : List ℕ) → (left ≢ 10 ∷ text) × (left ≢ 13 ∷ 10 ∷ text))
    (λ text. (left ≡ 10 ∷ text.now) ⊎ (left ≡ 13 ∷ 10 ∷ text.now))
    → MatchOption found ((text : List ℕ) → ¬ (Opens front text)) (λ text. Opens front text.now)
found_end left front None end same none = λ text opens.
    ⊎_elim (none text).0 (none text).1 (ends_at_once left text end ((same text).1 opens))
found_end left front (Some text) end same is = (same text.now).0 (end_opens left text.now is)

pub loop-rest-preserved : goal.loop-rest-preserved
loop-rest-preserved c = search (after_white, space, rules)

pub returns-clause-opens : goal.returns-clause-opens
returns-clause-opens c =
    let end : (b : ℕ) (rest : List ℕ) → IsTrue (is_space b) → c.loop-rest.left.now ≢ b ∷ rest = search rules in
    found_end c.loop-rest.left.now c.args.after.now c.after_end.result end c.loop-rest.invariant.0 c.after_end.ensures
