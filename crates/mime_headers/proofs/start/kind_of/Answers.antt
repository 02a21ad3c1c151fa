-- A text without a space is no start line.
use Rattle.mime_headers.specs.Start.{is_request_line, is_version, kind_of, other_words}
use Rattle.mime_headers.proofs.Common.{List, None, [], ap, arith, length, rules, sym, ℕ, ◌≡◌, ◌∙◌}
use Rattle.std.proofs.lemmas.{Bool.Decides.nat_tests, List.nil_from_length}
use Rattle.mime_headers.proofs.start.kind_of.Goals as goal

without_a_space : (text : List ℕ) → length (other_words text) ≡ 0 → kind_of text ≡ None
unfolding is_request_line is_version
without_a_space text are = let none : other_words text ≡ [] = nil_from_length (other_words text) are in grind (rules, none)

pub returns-then-is_empty : goal.returns-then-is_empty
returns-then-is_empty c =
    let none : length c.split_word.result.1.now ≡ 0 = grind (arith, nat_tests, c.is_empty.ensures, c.if-is_empty.true) in
    sym (without_a_space c.args.text.now (sym (ap length c.split_word.ensures.after) ∙ none))
