-- The scanner says of the list what it says of the text, and a text has one of each position.
use Rattle.std.proofs.Common.{◌≢◌, ℕ, ◌+◌, List, ◌∙◌, refl, sym, ap, length, drop, Some, rules}
use Rattle.mime.specs.Values.{IsRejected}
use Rattle.mime.specs.Inner.Scanning.{Judges}
use Rattle.mime.specs.declared.scan.Positions.{Positions}
use Rattle.mime.specs.declared.scan.Scanned.{Scanned}
use Rattle.mime.specs.declared.scan.Scanned.TheVariants.{Accepted, Unfinished, Stopped, Followed}
use Rattle.mime.proofs.BytesLemmas.{boundary_after}
use Rattle.mime.proofs.ValueLemmas.Reading.{accepted-from_positions, one_positions, rejected-from_fault}
use Rattle.mime.proofs.GrammarLemmas.Viability.{rejected-at_dead}
use Rattle.mime.proofs.CompareLemmas.Essences.{judged-by_list}
use Rattle.mime.proofs.compare.has_list_of.Goals as goal

-- A text that isn't judged to be accepted is rejected.
rejected-not_accepted : (text : List ℕ) (count : ℕ) (verdict : Scanned) → Judges text count verdict
    → ((positions : Positions) → verdict ≢ Accepted positions) → IsRejected text
rejected-not_accepted text count (Accepted positions) judged other = absurd (other positions refl)
rejected-not_accepted text count (Unfinished fault) judged other = rejected-from_fault _ _ judged.1
rejected-not_accepted text count (Stopped byte) judged other = rejected-at_dead _ _ _ judged.1
rejected-not_accepted text count (Followed positions byte) judged other = rejected-at_dead _ _ _ judged.1

pub of-list-requires : goal.of-list-requires
of-list-requires c = search (boundary_after, rules)

pub returns-in-Accepted : goal.returns-in-Accepted
returns-in-Accepted c =
    let end = ap length c.essence_str-end.ensures in
    let judged = judged-by_list _ c.args.s.now _ c.requires.reads c.requires.begins c.before_list.result c.before_list.ensures
    c.new-reader.result
    c.parameters.new.reader _ (c.new-reader.ensures.left ∙ c.text.ensures ∙ c.of-list.ensures
    ∙ ap (λ n. drop (n + 1) c.args.s.now) end) (c.new-reader.ensures.count ∙ ap (λ n. n + 1) end) c.in-Accepted.ensures in (
      λ is.
          let at = c.has_shape.ensures.0 is in
          record {
            positions = c.in-Accepted.positions;
            has = judged.1;
            at = at.0 ∙ ap Some end;
            counted = at.1 ∙ c.param_count.ensures;
          },
      λ is.
          let one = one_positions c.args.s.now c.in-Accepted.positions is.positions judged.1 is.has in
          c.has_shape.ensures.1 (
            ap (λ (p : Positions). p.semicolon) one ∙ is.at ∙ ap Some (sym end),
            ap (λ (p : Positions). p.pair_count) one ∙ is.counted ∙ sym c.param_count.ensures,
          ),
    )

pub returns-in_default : goal.returns-in_default
returns-in_default c =
    let end = ap length c.essence_str-end.ensures in
    let judged = judged-by_list _ c.args.s.now _ c.requires.reads c.requires.begins c.before_list.result c.before_list.ensures
    c.new-reader.result
    c.parameters.new.reader _ (c.new-reader.ensures.left ∙ c.text.ensures ∙ c.of-list.ensures
    ∙ ap (λ n. drop (n + 1) c.args.s.now) end) (c.new-reader.ensures.count ∙ ap (λ n. n + 1) end) c.parameters.ensures in
    (λ bad. absurd cc, λ is. absurd (rejected-not_accepted _ _ _ judged c.in_default.not-Accepted (accepted-from_positions _ _ is.has)))
