-- Separators are passed, and then a piece is read.
use Rattle.std.proofs.Common.{◌≡◌, ℕ, ◌+◌, ◌-◌, List, [], ◌∷◌, ◌++◌, None, length, drop, ap, sym, subst, refl, ◌∙◌, arith, rules}
use Rattle.std.proofs.lemmas.List.{drop_at}
use Rattle.mime.specs.Inner.BetweenCalls.{ReadsPiece}
use Rattle.mime.proofs.CutLemmas.Pieces.{separated-piece, passes-nothing, separators-boundary, separators-begins}
use Rattle.mime.proofs.iter.read_next_piece.Goals.{In-Some}
use Rattle.mime.proofs.iter.read_next_piece.Goals as goal

-- the separators, and what follows them
abbrev others : In-Some → List ℕ
others c = c.in-Some.first ∷ c.separators.new.reader.left

-- The text is the separators and what follows them.
spelled : (c : In-Some) → c.args.text.now ≡ c.in-Some.ensures.run ++ others c
spelled c = sym c.new-reader.ensures.left ∙ c.in-Some.ensures.given.bytes

-- The piece starts after the separators.
starts : (c : In-Some) → c.separators.new.reader.count - c.args.from - 1 ≡ length c.in-Some.ensures.run
starts c = omega (arith, c.in-Some.ensures.given.counted, c.new-reader.ensures.count)

pub range_from-requires : goal.range_from-requires
range_from-requires c = search (separators-boundary, spelled, starts, rules)

-- What follows the separators, as it is read.
rest_is : (c : In-Some) (start : ℕ) → start ≡ c.separators.new.reader.count - c.args.from - 1
    → drop start c.args.text.now ≡ others c
rest_is c start is =
    (λ i. drop ((is ∙ starts c) i) (spelled c i)) ∙ drop_at c.in-Some.ensures.run (others c) (length c.in-Some.ensures.run) refl

pub returns-in-None-clause-reads : goal.returns-in-None-clause-reads
returns-in-None-clause-reads c =
    let run = c.in-None.ensures.run in
    let whole : c.args.text.now ≡ run ++ [] =
    sym c.new-reader.ensures.left ∙ c.in-None.ensures.given.bytes ∙ ap (λ rest. run ++ rest) c.in-None.ensures.stopped in
    let size : length run + 0 ≡ c.none.result.steps - c.args.from =
    omega (arith, c.none.ensures.steps, c.count.ensures.count, c.in-None.ensures.given.counted, c.new-reader.ensures.count) in
    rw (c.none.ensures.piece, c.none.ensures.positions, c.none.ensures.left, whole)
    (subst (ReadsPiece (run ++ []) [] None []) size (separated-piece [] tt run c.in-None.ensures.of_class [] None [] 0 passes-nothing))

pub returns-in-Some-clause-reads : goal.returns-in-Some-clause-reads
returns-in-Some-clause-reads c =
    let here = (goal.at.returns-in-Some-clause-reads c).In-Some in
    let run = c.in-Some.ensures.run in
    let read = c.read_piece.result in
    let from = c.separators.new.reader.count - 1 in
    let rest = c.range_from.ensures.value ∙ rest_is here _ c.position-start.ensures in
    let begins = separators-begins c.args.text.now run (others here) c.utf8.text (spelled here) c.in-Some.ensures.of_class in
    let reads = subst (λ t. ReadsPiece t read.piece.now read.positions read.left.now (read.steps - from)) rest
    c.read_piece.ensures.reads in
    let size : length run + (read.steps - from) ≡ read.steps - c.args.from =
    omega (arith, c.read_piece.ensures.counted, c.in-Some.ensures.given.counted, c.new-reader.ensures.count) in
    subst (λ n. ReadsPiece c.args.text.now read.piece.now read.positions read.left.now n) size
    (subst (λ t. ReadsPiece t read.piece.now read.positions read.left.now (length run + (read.steps - from))) (sym (spelled here))
    (separated-piece (others here) begins run c.in-Some.ensures.of_class read.piece.now read.positions read.left.now _ reads))
