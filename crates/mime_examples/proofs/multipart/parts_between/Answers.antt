-- The parts so far and those after them are the body's.
use Rattle.std.proofs.{lemmas.Grind.common_steps, lemmas.Bool.true≢false, lemmas.Bool.Decides.Decides-eqb, lemmas.Slice.Eq.starts_is}
use Rattle.std.proofs.Common.{arith, rules, ◌≡◌, ◌++◌, ◌∷◌, [], ◌⊎◌, inl, inr, ℕ, List, Bool, Bor, true, false}
use Rattle.std.proofs.Common.{map, drop, nat_eq, append-nil, ap, refl, codes}
use Rattle.std.specs.{List.starts_with}
use Rattle.mime_examples.specs.Multipart.{Closes, HasNoDelimiter, IsCutOff, AreParts, closed, cut_off, a_part, no_delimiter, after_preamble}
use Rattle.mime_examples.proofs.multipart.parts_between.Goals as goal

-- A part that is added is the last.
added : (parts : List (Bor (List ℕ))) (part : Bor (List ℕ)) (more : List (List ℕ))
    → map (λ part. part.now) parts ++ (part.now ∷ more) ≡ map (λ part. part.now) (parts ++ (part ∷ [])) ++ more
added [] part more = refl
added (first ∷ parts) part more = ap (λ it. first.now ∷ it) (added parts part more)

-- After the last part a delimiter closes the body, or the body is cut off.
ended : (delimiter left : List ℕ) (closes : Bool) → closes ≡ starts_with nat_eq left (codes "--")
    → Closes left ⊎ IsCutOff delimiter left → AreParts delimiter left [] closes
ended delimiter left true is end = closed left (drop 2 left, (starts_is Decides-eqb left (codes "--") true is).0 refl)
ended delimiter left false is (inl closes) = search (true≢false, starts_is, Decides-eqb, rules)
ended delimiter left false is (inr off) = cut_off left off

pub returns-in-None : goal.returns-in-None
returns-in-None c =
    let none : HasNoDelimiter c.args.delimiter.now c.args.body.now = search rules in
    search (no_delimiter, rules)

pub loop-part-init : goal.loop-part-init
loop-part-init c = search (after_preamble, rules)

pub loop-part-preserved : goal.loop-part-preserved
loop-part-preserved c = grind (arith, common_steps, a_part, added)

pub returns : goal.returns
returns c =
    let closes = c.starts_with.result in
    let end : Closes c.loop-part.left.now ⊎ IsCutOff c.args.delimiter.now c.loop-part.left.now = search rules in
    let all = c.loop-part.invariant.1 [] closes (ended c.args.delimiter.now c.loop-part.left.now closes c.starts_with.ensures.value end) in
    rw append-nil at all
