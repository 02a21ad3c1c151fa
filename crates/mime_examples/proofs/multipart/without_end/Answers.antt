-- A part loses the end of its last line, if there is one.
use Rattle.std.proofs.Common.{rules, ◌≡◌, ◌≢◌, ◌∙◌, ◌<◌, ◌-◌, ◌++◌, ◌∷◌, [], ℕ, suc, List, Bor, Option, Some, None, unwrap_or, append_assoc}
use Rattle.std.proofs.Common.{take, length, sym, subst, codes, arith}
use Rattle.std.specs.Prelude.{MatchOption, slice_get}
use Rattle.std.proofs.Math.ListN.{drop_of_length-le}
use Rattle.std.proofs.Math.Seq.{drop-cons}
use Rattle.std.proofs.lemmas.Bool.Decides.{Decides-eqb}
use Rattle.std.proofs.lemmas.Option.{get_or_from_slice_get}
use Rattle.std.proofs.lemmas.Slice.Eq.{strip_suffix_is}
use Rattle.mime_examples.specs.Multipart.{EndsLine, IsPart, no_line, with_return, without_return}
use Rattle.mime_examples.proofs.Places.{divided}
use Rattle.mime_examples.proofs.multipart.without_end.Goals as goal

-- The part ends before a line feed, and before a carriage return in front of it.
before_feed : (before : List ℕ) (part : Bor (List ℕ)) (found : Option (Bor (List ℕ))) → before ≡ part.now ++ codes "\n"
    → MatchOption found ((line : List ℕ) → part.now ≢ line ++ codes "\r") (λ line. part.now ≡ line.now ++ codes "\r")
    → IsPart before (unwrap_or found part).now
before_feed before part None is none = subst (λ text. IsPart text part.now) (sym is) (without_return part.now none)
before_feed before part (Some line) is found = search (append_assoc, with_return, rules)

-- Bytes that end with a line feed are others and it.
last_feed : (text : List ℕ) → 0 < length text → slice_get text (length text - 1) ≡ Some 10
    → text ≡ take (length text - 1) text ++ (10 ∷ [])
last_feed text some is =
    let at = length text - 1 in
    let end = drop_of_length-le text {i = suc at} (omega arith) in
    divided text at (10 ∷ []) (drop-cons text at 0 (omega arith) ∙ cc (get_or_from_slice_get text at 10 0 is, end))

-- Bytes without a line feed at their end, before which a line ends, are none.
nothing : (before : List ℕ) → ((front : List ℕ) → before ≢ front ++ codes "\n") → EndsLine before → IsPart before before
nothing [] none ends = no_line
nothing (b ∷ before) none ends = absurd (none _ (last_feed (b ∷ before) (omega arith) (ends (λ is. (let e = is in cc)))))

pub returns-in-Some : goal.returns-in-Some
returns-in-Some c = λ _.
    let before = c.args.before.now in
    let part = c.in-Some.part in
    let line = c.strip_suffix-in-Some.result in
    rw c.unwrap_or.ensures
    (before_feed before part line (strip_suffix_is Decides-eqb before (codes "\n") (Some part) c.in-Some.ensures.cases)
    (strip_suffix_is Decides-eqb part.now (codes "\r") line c.strip_suffix-in-Some.ensures.cases))

pub returns-in-None : goal.returns-in-None
returns-in-None c = nothing c.args.before.now (strip_suffix_is Decides-eqb c.args.before.now (codes "\n") None c.in-None.ensures.cases)
